-- Canonical lists of sets of versions.
use Rattle.std.proofs.Common.{◌≡◌, ◌⊎◌, ◌||◌, ℕ, Bool, true, false, leb, List, [], ◌∷◌, length, refl, sym, ap, ◌∙◌, arith, inl, inr}
use Rattle.std.proofs.lemmas.Bool.Decides.{nat_tests}
use Rattle.frs_base.specs.declared.version.Gvsn.{Gvsn}
use Rattle.version_vector.specs.Places.{one_version}
use Rattle.version_vector.specs.Unions.{inserted}
use Rattle.version_vector.specs.Versions.{IsCanonical, covers, inside}
use Rattle.version_vector.specs.declared.interval.Interval.{Interval}
use Rattle.version_vector.proofs.Canonical.{head_full, or_assoc, tail_form}
use Rattle.version_vector.proofs.Insertions.{adds_version, covers-inserted, inserted_form}
use Rattle.version_vector.proofs.Uniqueness.{unique}
use Rattle.record_db.specs.Records.{Versions, both, plus}
use Rattle.script_engine.specs.Widening.{Exceeds, Fits, IsVectorOf}

-- the list of a set, if it has one
abbrev pub HasVector : Versions → Type 0
HasVector set = (vector : List Interval) × IsVectorOf set vector

-- a set has one
pub vector_one : (set : Versions) (a b : List Interval) → IsVectorOf set a → IsVectorOf set b → a ≡ b
vector_one set a b v w = unique a b v.canonical w.canonical (λ g. v.covering g ∙ sym (w.covering g))

pub no_versions : HasVector (λ g. false)
no_versions = ([], record { canonical = tt; covering = λ g. refl })

-- with one version more
pub vector_plus : (set : Versions) (g : Gvsn) → HasVector set → HasVector (plus set g)
vector_plus set g (vector, v) = (
  inserted (one_version g) vector,
  record {
    canonical = inserted_form (one_version g) vector (omega arith) v.canonical;
    covering = λ h. adds_version g vector v.canonical h ∙ (λ i. plus (λ x. v.covering x i) g h);
  },
)

-- ---- of two sets

united : List Interval → List Interval → List Interval
united [] b = b
united (i ∷ a) b = inserted i (united a b)

united_form : (a b : List Interval) → IsCanonical a → IsCanonical b → IsCanonical (united a b)
unfolding united
united_form [] b c d = d
united_form (i ∷ a) b c d = inserted_form i (united a b) (head_full i a c) (united_form a b (tail_form i a c) d)

united_covers : (a b : List Interval) (g : Gvsn) → IsCanonical a → IsCanonical b → covers (united a b) g ≡ (covers a g || covers b g)
unfolding united
united_covers [] b g c d = refl
united_covers (i ∷ a) b g c d =
    covers-inserted i (united a b) (head_full i a c) (united_form a b (tail_form i a c) d) g ∙ ap (λ t. inside i g || t) (united_covers a b g (tail_form i a c) d) ∙ sym (or_assoc (inside i g) (covers a g) (covers b g))

pub vector_both : (K L : Versions) → HasVector K → HasVector L → HasVector (both K L)
vector_both K L (a, v) (b, w) = (
  united b a,
  record {
    canonical = united_form b a w.canonical v.canonical;
    covering = λ g. united_covers b a g w.canonical v.canonical ∙ (λ i. w.covering g i || v.covering g i);
  },
)

-- ---- how long it is

-- it has at most 65,536 intervals or more
pub fits_or_exceeds : (set : Versions) → HasVector set → Fits set ⊎ ((count : ℕ) × Exceeds set count)
fits_or_exceeds set (vector, v) = by (leb (length vector) 65536) refl
  where
    by : (b : Bool) → leb (length vector) 65536 ≡ b → Fits set ⊎ ((count : ℕ) × Exceeds set count)
    by true e = inl (vector, v, grind (arith, nat_tests))
    by false e = inr (length vector, (vector, v, refl, grind (arith, nat_tests)))

-- and not both
pub not_both : (set : Versions) (count : ℕ) → Fits set → Exceeds set count → ⊥
not_both set count (a, v, within) (b, w, long, above) = let same = ap length (vector_one set a b v w) in omega arith

pub exceeds_one : (set : Versions) (m n : ℕ) → Exceeds set m → Exceeds set n → m ≡ n
exceeds_one set m n (a, v, long, above) (b, w, long', above') = sym long ∙ ap length (vector_one set a b v w) ∙ long'
