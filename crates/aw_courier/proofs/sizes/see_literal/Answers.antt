use Rattle.std.proofs.Common.{sym, subst}
use Rattle.aw_codec.specs.Ranges.{HeadSized, TextSized}
use Rattle.aw_term.specs.Views.{head_of}
use Rattle.aw_courier.proofs.sizes.see_literal.Goals as goal

pub returns-in-Text : goal.returns-in-Text
returns-in-Text c = subst (λ l. HeadSized (head_of l)) (sym c.in-Text.is) (subst TextSized c.as_slice.ensures c.see_bytes.ensures)
