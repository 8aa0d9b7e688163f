use Rattle.aw_site_repeat.proofs.known.is_repeat.Goals as goal

pub is_watched_by-requires : goal.is_watched_by-requires
is_watched_by-requires g c = rw c.in-Ask.is at c.requires.role
