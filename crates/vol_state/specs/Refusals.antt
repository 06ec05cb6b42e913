-- How it is told why a local operation is refused.
use Rattle.std.specs.Prelude.{◌++◌, ℕ, List, codes, decimal}
use Rattle.vol_state.specs.declared.operation.Refused.{Refused}
use Rattle.vol_state.specs.declared.operation.Refused.TheVariants.{TooLarge, NoPath, NotDirectory, Looped, NameTaken, NotEmpty}

-- the text of a refusal
abbrev pub refusal_text : Refused → List ℕ
refusal_text (TooLarge length) = decimal length ++ codes " bytes are too many for a file"
refusal_text NoPath = codes "no such path"
refusal_text NotDirectory = codes "a file in place of a directory"
refusal_text Looped = codes "a directory can't be moved into itself"
refusal_text NameTaken = codes "the name is taken"
refusal_text NotEmpty = codes "the directory isn't empty"
