-- What the events of lines leave of a sound scene.
use Rattle.std.proofs.Common.{◌≡◌, ◌≢◌, ◌<◌, ℕ, Bool, true, false, cond, length, refl, sym, ap, ◌∙◌, subst, inl, inr, Option, Some, None}
use Rattle.std.proofs.lemmas.Bool.{cases_eq}
use Rattle.frs_base.specs.Versions.{same_uid}
use Rattle.frs_base.specs.declared.sum.Sum.{Sum}
use Rattle.frs_base.specs.declared.version.Uid.{Uid}
use Rattle.win_order.specs.declared.update.Update.{Update}
use Rattle.record_db.specs.Staged.{with_uid}
use Rattle.world_model.specs.World.{Member, World, with_member}
use Rattle.world_model.specs.Events.{unstaged_by}
use Rattle.world_model.proofs.Changing.{at_same}
use Rattle.world_model.proofs.Facts.{none_some}
use Rattle.script_engine.specs.Scene.{Scene, in_world}
use Rattle.script_engine.specs.Sound.{AreStaged, IsNobodys, IsSoundScene, IsSoundWorld}
use Rattle.script_engine.proofs.Gives.{IsKept}
use Rattle.script_engine.proofs.Passing.{Passes, passes_refl, passes_trans}

-- ---- what is staged

-- nothing is staged that wasn't
abbrev pub Unstages : Member → Member → Type 0
Unstages x new = (uid : Uid) (sum : Sum) → new.staged uid ≡ Some sum → x.staged uid ≡ Some sum

-- without one file
pub without_one : (staged : Uid → Option Sum) (file uid : Uid) (sum : Sum) → with_uid staged file None uid ≡ Some sum → staged uid ≡ Some sum
without_one staged file uid sum = by (same_uid uid file)
  where
    by : (b : Bool) → cond b None (staged uid) ≡ Some sum → staged uid ≡ Some sum
    by true e = absurd (none_some sum e)
    by false e = e

-- without the file of an update that was made
pub without_made : (made : Option Update) (staged : Uid → Option Sum) (uid : Uid) (sum : Sum) → unstaged_by made staged uid ≡ Some sum → staged uid ≡ Some sum
without_made None staged uid sum e = e
without_made (Some u) staged uid sum e = without_one staged u.uid uid sum e

-- a member in the place of another
pub member_unstages : (w new : World) (d : ℕ) (x : Member) → new ≡ with_member w d x → Unstages (w.at d) x → Unstages (w.at d) (new.at d)
member_unstages w new d x is u = subst (Unstages (w.at d)) (sym (ap (λ (z : World). z.at d) is ∙ at_same w.at d x)) u

-- ---- scenes

-- a scene whose world went on at this member, with the names as they were, and with what is staged at it
pub record Leads (d : ℕ) (s new : Scene) : Type 0 where
  pub names : new.names ≡ s.names
  pub passes : Passes d s.world new.world
  pub staged : AreStaged (s.world.at d) (s.contents d) → AreStaged (new.world.at d) (new.contents d)
  pub beside : (j : ℕ) → j ≢ d → new.contents j ≡ s.contents j

pub leads_refl : (d : ℕ) (s : Scene) → IsSoundWorld s.world → Leads d s s
leads_refl d s h = record { names = refl; passes = passes_refl d s.world h; staged = λ h. h; beside = λ j n. refl }

pub leads_trans : (d : ℕ) (a b c : Scene) → Leads d a b → Leads d b c → Leads d a c
leads_trans d a b c p q = record {
  names = q.names ∙ p.names;
  passes = passes_trans d a.world b.world c.world p.passes q.passes;
  staged = λ h. q.staged (p.staged h);
  beside = λ j n. q.beside j n ∙ p.beside j n;
}

-- where nothing is staged that wasn't
pub leads_by : (d : ℕ) (s : Scene) (w : World) → Passes d s.world w → Unstages (s.world.at d) (w.at d) → Leads d s (in_world s w)
leads_by d s w p u = record { names = refl; passes = p; staged = λ h uid sum e. h uid sum (u uid sum e); beside = λ j n. refl }

-- each member's contents are as they were, or go on
each_staged : (d : ℕ) (s new : Scene) → ((j : ℕ) → AreStaged (s.world.at j) (s.contents j)) → Leads d s new → (j : ℕ) → AreStaged (new.world.at j) (new.contents j)
each_staged d s new h l j = elim (cases_eq j d) [
  | inl e ↦ subst (λ i. AreStaged (new.world.at i) (new.contents i)) (sym e) (l.staged (h d))
  | inr n ↦ subst (λ x. AreStaged x (new.contents j)) (l.passes.others j n) (subst (AreStaged (s.world.at j)) (sym (l.beside j n)) (h j))
]

-- a scene on the way keeps what it has to
pub leads_kept : (d : ℕ) (s new : Scene) → IsKept s → Leads d s new → IsKept new
leads_kept d s new h l = record { world = l.passes.sound; staged = each_staged d s new h.staged l }

-- a scene stays sound where a member went on that isn't nobody's
pub leads_sound : (d : ℕ) (s new : Scene) → IsSoundScene s → Leads d s new → ((j : ℕ) → IsNobodys s j → j ≢ d) → IsSoundScene new
leads_sound d s new h l apart = record {
  world = l.passes.sound;
  staged = each_staged d s new h.staged l;
  unnamed = λ j nobody.
      let old : IsNobodys s j = λ k within. nobody k (subst (λ ns. k < length ns) (sym l.names) within) in
      let (kind, is) = h.unnamed j old in
      (kind, sym (l.passes.others j (apart j old)) ∙ is);
}
