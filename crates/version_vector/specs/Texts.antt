-- How it is told why a set of versions is not made or widened.
use Rattle.std.specs.Prelude.{◌++◌, ℕ, List, codes, decimal}
use Rattle.version_vector.specs.declared.errors.OfError.{OfError}
use Rattle.version_vector.specs.declared.errors.OfError.TheVariants as refused
use Rattle.version_vector.specs.declared.errors.VectorError.{VectorError}
use Rattle.version_vector.specs.declared.errors.VectorError.TheVariants as full

-- why a set isn't widened
abbrev pub vector_error_text : VectorError → List ℕ
vector_error_text (full.VectorFull count) = codes "a vector of " ++ (decimal count ++ codes " intervals")
vector_error_text full.Memory = codes "out of memory"

-- why intervals are taken for no set
abbrev pub of_error_text : OfError → List ℕ
of_error_text (refused.NotCanonical index) = codes "interval " ++ (decimal index ++ codes " is out of place")
of_error_text refused.Memory = codes "out of memory"
