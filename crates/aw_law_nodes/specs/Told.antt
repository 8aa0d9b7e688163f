-- The replies of a site among those that have bytes.
use Rattle.aw_msg.specs.Responses as R
use Rattle.aw_law_nodes.specs.Nodes.{Response, WasNew, WasHeld, Contradicts, NotForMe, NotValid, Answers, Sends, Shows, Ended}

-- a reply of a site among those that have bytes
abbrev pub told : Response → R.Response
told WasNew = R.WasNew
told WasHeld = R.WasHeld
told (Contradicts kept came) = R.Contradicts kept came
told NotForMe = R.NotForMe
told NotValid = R.NotValid
told (Answers answer) = R.Answers answer
told (Sends message) = R.Sends message
told (Shows item) = R.Shows item
told (Ended count) = R.Ended count
