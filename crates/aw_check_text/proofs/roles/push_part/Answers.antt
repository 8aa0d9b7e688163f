use Rattle.aw_check_text.proofs.roles.push_part.Goals as goal

pub returns : goal.returns
returns c = (c.in_ok-found.found, c.in_ok-found.ensures, c.in_ok-push_line.ensures, c.is_yes.ensures)
