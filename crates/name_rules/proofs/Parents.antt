-- The UIDs of directories, and the kinds of updates.
use Rattle.std.proofs.Common.{◌≡◌, ◌≢◌, ℕ, Bool, true, false, cond, eqb, refl, sym, ap, ◌∙◌, subst, arith, Some, None}
use Rattle.std.proofs.lemmas.Bool.Decides.{nat_tests}
use Rattle.frs_base.specs.declared.kind.Kind.TheVariants.{Directory, File}
use Rattle.win_order.specs.Order.{is_directory}
use Rattle.win_order.specs.declared.update.Update.{Update}
use Rattle.vol_state.specs.declared.object.Object.{Object}
use Rattle.vol_state.specs.Places.{is_directory as is_directory_kind}
use Rattle.vol_state.specs.State.{uid_of}
use Rattle.vol_state.specs.Effects.{uid_found}
use Rattle.vol_state.specs.Conditions.{root_uid}
use Rattle.vol_state.specs.Maps.{Maps}
use Rattle.vol_state.specs.Tables.{IsAt}
use Rattle.name_rules.specs.Recorded.{parent_uid}
use Rattle.name_rules.specs.Tree.{kind_of}

-- that of an object, where the root is none
pub parent_is : (own : ℕ) (m : Maps) (fid : ℕ) (o : Object) → m.at 0 ≡ None → IsAt m fid o → parent_uid own m fid ≡ uid_of own o
parent_is own m fid o root at = by (eqb fid 0) (grind (arith, nat_tests, apart)) ∙ ap (uid_found own) at
  where
    apart : fid ≢ 0
    apart z = let bad : None ≡ Some o = sym root ∙ subst (λ i. m.at i ≡ Some o) z at in absurd (cc)

    by : (b : Bool) → b ≡ false → cond b root_uid (uid_found own (m.at fid)) ≡ uid_found own (m.at fid)
    by false e = refl
    by true e = absurd (cc)

-- that of the root
pub parent_root : (own : ℕ) (m : Maps) (fid : ℕ) → fid ≡ 0 → parent_uid own m fid ≡ root_uid
parent_root own m fid z = subst (λ i. parent_uid own m i ≡ root_uid) (sym z) refl

-- the kind of an update is a directory where the update is of one
pub kind_is : (u : Update) → is_directory_kind (kind_of u) ≡ is_directory u
kind_is u = by (is_directory u)
  where
    by : (b : Bool) → is_directory_kind (cond b Directory File) ≡ b
    by true = refl
    by false = refl
