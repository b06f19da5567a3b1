use Rattle.std.proofs.Common.{subst, sym}
use Rattle.std.specs.Prelude.{IsUtf8}
use Rattle.lines.proofs.Names.{name_is_text, ok_of_text}
use Rattle.lines.proofs.name.NameDisplay.fmt.Goals as goal

pub unwrap-requires : goal.unwrap-requires
unwrap-requires g c = ok_of_text _ _ _ _ c.from_utf8.ensures.cases (subst IsUtf8 (sym c.as_bytes.ensures.value) (name_is_text _ c.as_bytes.ensures.name))
