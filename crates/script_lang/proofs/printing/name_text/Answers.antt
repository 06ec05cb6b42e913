use Rattle.std.proofs.Common.{sym, subst}
use Rattle.std.specs.Prelude.{IsUtf8}
use Rattle.script_lang.proofs.Texts.{name_utf8}
use Rattle.script_lang.proofs.printing.name_text.Goals as goal

pub text_of-requires : goal.text_of-requires
text_of-requires c = subst IsUtf8 (sym c.as_slice.ensures) (name_utf8 c.args.name.now c.requires)
