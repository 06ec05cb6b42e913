-- Each step keeps the numbering, and leaves the next numbers free.
use Rattle.std.proofs.Common.{◌≡◌, ◌≤◌, ◌&&◌, not, ℕ, Bool, true, false, List, [], ◌∷◌, Option, Some, None, refl, arith}
use Rattle.std.proofs.lemmas.Bool.Decides.{eqb_tells}
use Rattle.std.proofs.lemmas.List.{length-append}
use Rattle.std.specs.Prelude.{is_some, if◌then◌else◌}
use Rattle.frs_base.specs.declared.version.Uid.{Uid}
use Rattle.frs_base.specs.declared.kind.Kind.{Kind}
use Rattle.frs_base.specs.declared.kind.Kind.TheVariants.{File, Directory}
use Rattle.vol_state.specs.declared.object.Object.{Object}
use Rattle.vol_state.specs.declared.command.VolCmd.{VolCmd}
use Rattle.vol_state.specs.declared.command.VolCmd.TheVariants.{PutNew, PutOver, Mkdir, Move, Remove, Park, Erase, Make, Rewrite, Place}
use Rattle.vol_state.specs.State.{State}
use Rattle.vol_state.specs.Journal.{IsNumbered}
use Rattle.vol_state.specs.Numbers.{own_version, has_usn, has_fid, has_numbers}
use Rattle.vol_state.specs.Effects.{logged, added, edited, gone, effect, new_object, at_place, with_bytes}
use Rattle.vol_state.specs.Conditions.{is_allowed, is_within, is_file, is_placed, is_in_limbo, is_open_object, can_move, can_stand}
use Rattle.frs_base.specs.Options.{some_is}
use Rattle.vol_state.specs.Places.{object_at, has_children, is_reached}
use Rattle.vol_state.specs.Laws.{KeepsNumbering, AreFree, IsBorn, IsInTime, LeavesNumbersFree}
use Rattle.vol_state.proofs.Climbing.{by_cases}
use Rattle.vol_state.proofs.Volumes.{both, some_of, some_there}
use Rattle.vol_state.proofs.Tops.{fid_added, usn_added, fid_edited, usn_edited, fid_gone, usn_gone}
use Rattle.vol_state.proofs.Kept.{most_stamped}
use Rattle.vol_state.proofs.Runs.{run_push}

-- one record more
numbered_logged : (v : State) (objects : List Object) (next_fid fid : ℕ) (uid : Uid) (op : ℕ) (local : Bool) → IsNumbered v → IsNumbered (logged fid uid op local (record v { objects = objects; next_fid = next_fid }))
numbered_logged v objects next_fid fid uid op local h = record {
  run = run_push 9 v.journal (record { usn = v.next_usn; fid = fid; uid = uid; op = op; local = local }) h.run h.next;
  next = omega (arith, h.next, length-append v.journal (record { usn = v.next_usn; fid = fid; uid = uid; op = op; local = local } ∷ []));
}

numbered_effect : (cmd : VolCmd) (v : State) → IsNumbered v → IsNumbered (effect cmd v)
numbered_effect (PutNew parent name bytes) v h = numbered_logged v _ _ _ _ 1 true h
numbered_effect (PutOver fid bytes) v h = numbered_logged v _ v.next_fid _ _ 2 true h
numbered_effect (Mkdir parent name) v h = numbered_logged v _ _ _ _ 3 true h
numbered_effect (Move fid parent name) v h = numbered_logged v _ v.next_fid _ _ 4 true h
numbered_effect (Remove fid) v h = numbered_logged v _ v.next_fid _ _ 5 true h
numbered_effect (Park fid) v h = numbered_logged v _ v.next_fid _ _ 6 false h
numbered_effect (Erase fid) v h = numbered_logged v _ v.next_fid _ _ 7 false h
numbered_effect (Make uid kind bytes) v h = numbered_logged v _ _ _ _ 8 false h
numbered_effect (Rewrite fid bytes) v h = numbered_logged v _ v.next_fid _ _ 9 false h
numbered_effect (Place fid parent name) v h = numbered_logged v _ v.next_fid _ _ 10 false h

pub keeps_numbering : KeepsNumbering
keeps_numbering cmd v h = go (has_numbers cmd v && is_allowed cmd v)
  where
    go : (b : Bool) → IsNumbered (if b then effect cmd v else v)
    go true = numbered_effect cmd v h
    go false = h

-- ---- the next numbers stay free

free_added : (op : ℕ) (local : Bool) (place : Option (ℕ × List ℕ)) (kind : Kind) (bytes : List ℕ) (tag : Option Uid) (v : State) → has_usn v ≡ true → has_fid v ≡ true → own_version v.own tag ≤ v.next_usn → AreFree (added op local (new_object v place kind bytes tag local) v)
free_added op local place kind bytes tag v usn fid born =
    let o = new_object v place kind bytes tag local in
    record {
      fid = let e = fid_added op local o v refl fid in omega arith;
      usn = let e = usn_added op local o v refl (most local) usn in omega arith;
    }
  where
    most : (b : Bool) → (if b then v.next_usn else 0) ≤ v.next_usn
    most true = omega arith
    most false = omega arith

free_edited : (op : ℕ) (local : Bool) (fid : ℕ) (f : Object → Object) (v : State) → ((x : Object) → (f x).fid ≡ x.fid) → ((x : Object) → (f x).born ≡ x.born) → ((x : Object) → (f x).tag ≡ x.tag) → ((x : Object) → (f x).last_local ≡ x.last_local)
    → AreFree v → has_usn v ≡ true → (o : Object) × (object_at v.objects fid ≡ Some o) → AreFree (edited op local fid f v)
free_edited op local fid f v fids borns tags lasts h usn there = record {
  fid = let e = fid_edited op local fid f there.0 v fids there.1 in let a = h.fid in omega arith;
  usn = let e = usn_edited op local fid f v (most_stamped f v.own v.next_usn borns tags lasts local) usn in omega arith;
}

free_place : (op : ℕ) (local : Bool) (fid : ℕ) (place : Option (ℕ × List ℕ)) (v : State) → AreFree v → has_usn v ≡ true → (o : Object) × (object_at v.objects fid ≡ Some o) → AreFree (edited op local fid (at_place place) v)
free_place op local fid place v = free_edited op local fid (at_place place) v (λ x. refl) (λ x. refl) (λ x. refl) (λ x. refl)

free_fill : (op : ℕ) (local : Bool) (fid : ℕ) (bytes : List ℕ) (v : State) → AreFree v → has_usn v ≡ true → (o : Object) × (object_at v.objects fid ≡ Some o) → AreFree (edited op local fid (with_bytes bytes) v)
free_fill op local fid bytes v = free_edited op local fid (with_bytes bytes) v (λ x. refl) (λ x. refl) (λ x. refl) (λ x. refl)

free_gone : (op : ℕ) (local : Bool) (fid : ℕ) (v : State) → AreFree v → has_usn v ≡ true → (o : Object) × (object_at v.objects fid ≡ Some o) → AreFree (gone op local fid v)
free_gone op local fid v h usn there = record {
  fid = let e = fid_gone op local fid there.0 v there.1 in let a = h.fid in omega arith;
  usn = let e = usn_gone op local fid v usn in omega arith;
}

pub some_at : (test : Object → Bool) (found : Option Object) → some_is test found ≡ true → (o : Object) × (found ≡ Some o)
some_at test found e = let s = some_of test found e in (s.0, s.1)

pub opened_at : (fid : ℕ) (v : State) → is_open_object v.objects fid ≡ true → (o : Object) × (object_at v.objects fid ≡ Some o)
opened_at fid v e = some_there (object_at v.objects fid) (both (is_some (object_at v.objects fid)) (is_reached v.objects fid) e).0

own_born : (v : State) (uid : Uid) → IsBorn v uid → own_version v.own (Some uid) ≤ v.next_usn
own_born v uid born = by_cases (eqb_tells uid.db v.own)
    (λ t. rw t.0 (let h = born t.1 in omega arith))
    (λ t. rw t.0 (omega arith))

free_effect : (cmd : VolCmd) (v : State) → AreFree v → IsInTime cmd v → has_numbers cmd v ≡ true → is_allowed cmd v ≡ true → AreFree (effect cmd v)
free_effect (PutNew parent name bytes) v h t n m = let (usn, fid) = both (has_usn v) (has_fid v) n in free_added 1 true (Some (parent, name)) File bytes None v usn fid (omega arith)
free_effect (PutOver fid bytes) v h t n m =
    let rest = (both (is_within bytes) (some_is is_file (object_at v.objects fid) && is_reached v.objects fid) m).1 in
    free_fill 2 true fid bytes v h (both (has_usn v) true n).0 (some_at is_file (object_at v.objects fid) (both (some_is is_file (object_at v.objects fid)) (is_reached v.objects fid) rest).0)
free_effect (Mkdir parent name) v h t n m = let (usn, fid) = both (has_usn v) (has_fid v) n in free_added 3 true (Some (parent, name)) Directory [] None v usn fid (omega arith)
free_effect (Move fid parent name) v h t n m =
    free_place 4 true fid (Some (parent, name)) v h (both (has_usn v) true n).0 (opened_at fid v (both (is_open_object v.objects fid) (can_move v.objects fid parent name) m).0)
free_effect (Remove fid) v h t n m =
    free_gone 5 true fid v h (both (has_usn v) true n).0 (opened_at fid v (both (is_open_object v.objects fid) (not (has_children v.objects fid)) m).0)
free_effect (Park fid) v h t n m = free_place 6 false fid None v h (both (has_usn v) true n).0 (some_at is_placed (object_at v.objects fid) m)
free_effect (Erase fid) v h t n m =
    free_gone 7 false fid v h (both (has_usn v) true n).0 (some_at is_in_limbo (object_at v.objects fid) (both (some_is is_in_limbo (object_at v.objects fid)) (not (has_children v.objects fid)) m).0)
free_effect (Make uid kind bytes) v h t n m = let (usn, fid) = both (has_usn v) (has_fid v) n in free_added 8 false None kind bytes (Some uid) v usn fid (own_born v uid t)
free_effect (Rewrite fid bytes) v h t n m = free_fill 9 false fid bytes v h (both (has_usn v) true n).0 (some_at is_file (object_at v.objects fid) m)
free_effect (Place fid parent name) v h t n m =
    free_place 10 false fid (Some (parent, name)) v h (both (has_usn v) true n).0 (some_at is_in_limbo (object_at v.objects fid) (both (some_is is_in_limbo (object_at v.objects fid)) (can_stand v.objects fid parent name) m).0)

pub leaves_numbers_free : LeavesNumbersFree
leaves_numbers_free cmd v h t = go (has_numbers cmd v) refl (is_allowed cmd v) refl
  where
    go : (a : Bool) → has_numbers cmd v ≡ a → (b : Bool) → is_allowed cmd v ≡ b → AreFree (if a && b then effect cmd v else v)
    go true n true m = free_effect cmd v h t n m
    go true n false m = h
    go false n b m = h
