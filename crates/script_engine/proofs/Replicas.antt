-- The lists of a volume after an operation of the installer, and what such an operation leaves of a sound world.
use Rattle.std.proofs.Common.{◌≡◌, ℕ, false, refl, sym, ap, ◌∙◌, subst, inr, Some, None}
use Rattle.frs_base.specs.declared.version.Uid.{Uid}
use Rattle.vol_state.specs.declared.command.VolCmd.{VolCmd}
use Rattle.vol_state.specs.declared.command.VolCmd.TheVariants.{PutNew, PutOver, Mkdir, Move, Remove, Park, Erase, Make, Rewrite, Place}
use Rattle.vol_state.specs.State.{State}
use Rattle.vol_state.specs.Journal.{IsNumbered}
use Rattle.vol_state.specs.Effects.{at_place, effect, stamp, with_bytes}
use Rattle.vol_state.specs.Valid.{IsVolume}
use Rattle.vol_state.specs.Laws.{AreFree}
use Rattle.vol_state.specs.Maps.{Maps, Stands, write}
use Rattle.vol_state.specs.Tables.{IsReplica}
use Rattle.vol_state.proofs.Standing.{stands_on}
use Rattle.vol_state.proofs.Tabling.{tables_are_tests}
use Rattle.vol_state.proofs.Trees.{rising_edit, rising_without}
use Rattle.world_model.specs.World.{Member, World, with_member}
use Rattle.world_model.specs.Events.{Step, Install, Unstage, operated, unstaged_at}
use Rattle.world_model.specs.Invariant.{Invariant}
use Rattle.world_model.proofs.Changing.{at_each, at_same}
use Rattle.world_model.proofs.Growth.{step_grows}
use Rattle.world_model.proofs.Lives.{step_beside}
use Rattle.world_model.proofs.Steps.{step_keeps}
use Rattle.script_engine.specs.Sound.{AreLists, IsSoundWorld}
use Rattle.script_engine.proofs.Passing.{Passes}
use Rattle.script_engine.proofs.Vectors.{HasVector}
use Rattle.script_engine.proofs.Volumes.{Leaves, lists_are, numbered_logged, pushed}

-- ---- an operation of the installer

leaves : (op : VolCmd) (v : State) (m : Maps) → IsVolume v → AreFree v → IsNumbered v → IsReplica v.own m op → Leaves v (effect op v)
leaves (PutNew parent name bytes) v m h free n l = absurd l
leaves (PutOver fid bytes) v m h free n l = absurd l
leaves (Mkdir parent name) v m h free n l = absurd l
leaves (Move fid parent name) v m h free n l = absurd l
leaves (Remove fid) v m h free n l = absurd l
leaves (Park fid) v m h free n l =
    record { rising = rising_edit (λ o. stamp false v.next_usn (at_place None o)) (λ o. refl) fid 0 v.objects h.tree.rising; numbered = numbered_logged v _ v.next_fid _ _ 6 false n; own = refl }
leaves (Erase fid) v m h free n l = record { rising = rising_without fid 0 v.objects h.tree.rising; numbered = numbered_logged v _ v.next_fid _ _ 7 false n; own = refl }
leaves (Make uid kind bytes) v m h free n l = record { rising = pushed v _ h free refl; numbered = numbered_logged v _ _ _ _ 8 false n; own = refl }
leaves (Rewrite fid bytes) v m h free n l =
    record { rising = rising_edit (λ o. stamp false v.next_usn (with_bytes bytes o)) (λ o. refl) fid 0 v.objects h.tree.rising; numbered = numbered_logged v _ v.next_fid _ _ 9 false n; own = refl }
leaves (Place fid parent name) v m h free n l =
    record { rising = rising_edit (λ o. stamp false v.next_usn (at_place (Some (parent, name)) o)) (λ o. refl) fid 0 v.objects h.tree.rising; numbered = numbered_logged v _ v.next_fid _ _ 10 false n; own = refl }

-- a member whose volume is one of lists has one after each operation of the installer
pub replica_lists : (w : World) (d : ℕ) (op : VolCmd) (new : World) → Step w d (Install op) new → Invariant new
    → (v : State) × AreLists d (w.at d).volume v → (v : State) × AreLists d (write d op (w.at d).volume) v
replica_lists w d op new (quiet, due, ok, is) h (v, l) =
    let m = (w.at d).volume in
    let may : IsReplica v.own m op = subst (λ x. IsReplica x m op) (sym l.own) ok in
    let left = leaves op v m l.valid l.free l.numbered may in
    let stands : Stands (effect op v) (write v.own op m) = stands_on op v m l.valid l.free (tables_are_tests op v m l.valid l.free l.stands (inr may)) l.stands in
    let own : Stands (effect op v) (write d op m) = subst (λ x. Stands (effect op v) (write x op m)) l.own stands in
    let here : (new.at d).volume ≡ write d op m = ap (λ (z : World). (z.at d).volume) is ∙ ap (λ x. x.volume) (at_same w.at d (operated d op (w.at d))) in
    (effect op v, subst (λ m. AreLists d m (effect op v)) here (lists_are new d (effect op v) h left.rising left.numbered (left.own ∙ l.own) (subst (Stands (effect op v)) (sym here) own)))

-- ---- what the installer leaves of a sound world

abbrev HasVolume : ℕ → Member → Type 0
HasVolume d x = (v : State) × AreLists d x.volume v

-- a member that covers what it covered, with a volume of lists
still_sound : (w : World) (d : ℕ) (x : Member) (new : World) → IsSoundWorld w → x.known ≡ (w.at d).known → HasVolume d x → new ≡ with_member w d x → Invariant new → IsSoundWorld new
still_sound w d x new h known volume is inv = record {
  invariant = inv;
  volumes = λ j. subst (λ (z : World). HasVolume j (z.at j)) (sym is) (at_each HasVolume w.at d x volume (λ i n. h.volumes i) j);
  vectors = λ j. subst (λ (z : World). HasVector (z.at j).known) (sym is) (at_each (λ i (y : Member). HasVector y.known) w.at d x (subst HasVector (sym known) (h.vectors d)) (λ i n. h.vectors i) j);
}

pub passes_install : (w : World) (d : ℕ) (op : VolCmd) (new : World) → IsSoundWorld w → Step w d (Install op) new → Passes d w new
passes_install w d op new h s =
    let inv = step_keeps w d (Install op) new h.invariant s in
    record {
      sound = still_sound w d (operated d op (w.at d)) new h refl (replica_lists w d op new s inv (h.volumes d)) s.3 inv;
      grows = step_grows w d (Install op) new s;
      others = step_beside w d (Install op) new s;
    }

pub passes_unstage : (w : World) (d : ℕ) (uid : Uid) (new : World) → IsSoundWorld w → Step w d (Unstage uid) new → Passes d w new
passes_unstage w d uid new h s = record {
  sound = still_sound w d (unstaged_at uid (w.at d)) new h refl (h.volumes d) s.5 (step_keeps w d (Unstage uid) new h.invariant s);
  grows = step_grows w d (Unstage uid) new s;
  others = step_beside w d (Unstage uid) new s;
}
