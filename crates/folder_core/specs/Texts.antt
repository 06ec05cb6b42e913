-- How it is told why an event changes nothing.
use Rattle.std.specs.Prelude.{◌++◌, ℕ, List, codes, decimal}
use Rattle.frs_base.specs.declared.kind.Kind.TheVariants as kind
use Rattle.vol_state.specs.Refusals.{refusal_text as operation_text}
use Rattle.win_order.specs.Texts.{unfit_text}
use Rattle.folder_core.specs.declared.refusal.Refusal.{Refusal}
use Rattle.folder_core.specs.declared.refusal.Refusal.TheVariants as refused

-- why an event changes nothing
abbrev pub refusal_text : Refusal → List ℕ
refusal_text (refused.Local why) = operation_text why
refusal_text (refused.Skewed clock) = codes "the clock " ++ (decimal clock ++ codes " is too far ahead")
refusal_text (refused.NotYet usn) = codes "the journal record " ++ (decimal usn ++ codes " is to be consumed first")
refusal_text (refused.Unfit why) = unfit_text why
refusal_text (refused.OwnAhead version) = codes "the own version " ++ (decimal version ++ codes " isn't made yet")
refusal_text (refused.KindDiffers kind.File) = codes "a directory in place of a file"
refusal_text (refused.KindDiffers kind.Directory) = codes "a file in place of a directory"
refusal_text (refused.Beaten held) = codes "the record that is held stands"
refusal_text (refused.Doubled gvsn) = codes "version " ++ (decimal gvsn.version ++ codes " is covered")
refusal_text (refused.MarshalBad at) = codes "no form of a file at byte " ++ decimal at
refusal_text (refused.HashDiffers want got) = codes "the form has another sum"
refusal_text (refused.Unheld uid) = codes "the file " ++ (decimal uid.version ++ codes " isn't held")
refusal_text (refused.VectorFull count) = codes "a vector of " ++ (decimal count ++ codes " intervals")
