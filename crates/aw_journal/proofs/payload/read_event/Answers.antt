use Rattle.std.specs.Prelude.{◌≡◌, ℕ, List, None, Some, Option, option_map, ⊤, MatchOption}
use Rattle.std.proofs.Common.{arith}
use Rattle.std.proofs.lemmas.Result.{IfOk-weaker}
use Rattle.aw_codec.specs.Bytes.{AreBytes}
use Rattle.aw_journal.specs.Events.{event_in, payload_of, IsEvent}
use Rattle.aw_journal.specs.EventView.{event_of}
use Rattle.aw_journal.specs.declared.payload.NodeEvent.{NodeEvent}
use Rattle.aw_journal.proofs.Events.{event_taken}
use Rattle.aw_journal.proofs.payload.read_event.Goals as goal

spelled : (payload : List ℕ) (found : Option NodeEvent) → AreBytes payload → event_in payload ≡ option_map event_of found →
    MatchOption found ⊤ (λ e. (payload ≡ payload_of (event_of e)) × IsEvent (event_of e))
spelled payload None bytes is = tt
spelled payload (Some e) bytes is = event_taken payload (event_of e) bytes is

pub returns-clause-spelled : goal.returns-clause-spelled
returns-clause-spelled c =
    IfOk-weaker c.event_in.result _ _ (λ found is. spelled c.args.payload.now found (λ i. omega (arith, c.type_inv.payload i)) is) c.event_in.ensures
