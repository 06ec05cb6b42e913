-- How it is told why an update is not taken.
use Rattle.std.specs.Prelude.{ℕ, List, codes}
use Rattle.win_order.specs.declared.unfit.Unfit.{Unfit}
use Rattle.win_order.specs.declared.unfit.Unfit.TheVariants.{WrongSet, Compressed, Skewed, Version, Root}

-- why an update is not taken
abbrev pub unfit_text : Unfit → List ℕ
unfit_text WrongSet = codes "of another content set"
unfit_text Compressed = codes "a compressed stream"
unfit_text Skewed = codes "a fence or clock too far ahead"
unfit_text Version = codes "a version that no journal gives"
unfit_text Root = codes "of the root"
