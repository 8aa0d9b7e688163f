use Rattle.aw_lex.proofs.FeedPlaces.{feed_place, feed_within}
use Rattle.aw_lex.proofs.line.place_of_feed.Goals as goal

pub returns-clause-value : goal.returns-clause-value
returns-clause-value c = feed_place c.args.text.now c.memchr.result c.memchr.ensures

pub returns-clause-within : goal.returns-clause-within
returns-clause-within c = feed_within c.args.text.now c.memchr.result c.memchr.ensures
