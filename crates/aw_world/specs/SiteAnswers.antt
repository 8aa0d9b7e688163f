-- Whether a site took in what came.
use Rattle.std.specs.Prelude.{Bool, true, false}
use Rattle.aw_apply.specs.Messages.{Received, New}
use Rattle.aw_law_sites.specs.Sites.{Reaction}

-- something of the message was new to the site
abbrev pub is_new : Received Reaction → Bool
is_new (New x) = true
is_new _ = false
