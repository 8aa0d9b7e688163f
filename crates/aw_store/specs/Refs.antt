-- When two references are one.
pub use Rattle.aw_term.specs.Names.{slot_eq, ref_eq}
