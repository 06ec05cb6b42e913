-- Each change keeps the greatest numbers.
use Rattle.std.proofs.Common.{◌≡◌, ◌≤◌, max, ℕ, Bool, true, false, List, Option, Some, None, refl, ap, ◌∙◌, arith}
use Rattle.std.specs.Prelude.{IsSome, if◌then◌else◌}
use Rattle.frs_base.specs.declared.kind.Kind.{Kind}
use Rattle.frs_base.specs.declared.version.Uid.{Uid}
use Rattle.vol_state.specs.declared.object.Object.{Object}
use Rattle.vol_state.specs.Places.{object_at}
use Rattle.vol_state.specs.State.{State}
use Rattle.vol_state.specs.Numbers.{own_version, usn_in, has_usn, has_fid, greatest_fid, greatest_usn}
use Rattle.vol_state.specs.Effects.{added, edited, gone, new_object, at_place, with_bytes, stamp}
use Rattle.vol_state.specs.Seen.{fresh_state}
use Rattle.vol_state.specs.Valid.{IsVolume, IsKept}
use Rattle.vol_state.proofs.Tops.{fid_added, usn_added, fid_edited, usn_edited, fid_gone, usn_gone}

pub kept_fresh : (own : ℕ) → IsKept (fresh_state own) 0 0
unfolding greatest_fid greatest_usn
kept_fresh own = record {
  valid = record {
    tree = record {
      rising = tt;
      homes = λ o i. absurd i;
      ends = λ o i. absurd i;
      apart = λ a b parent name i j u v. absurd i;
    };
    uids = λ a b i j e. absurd i;
    summed = λ o i. absurd i;
  };
  fid = refl;
  usn = refl;
}

pub there_of : {T : Type 0} (x : Option T) → IsSome x → (y : T) × (x ≡ Some y)
there_of None s = absurd (cc)
there_of (Some y) s = (y, refl)

pub kept_added : (op : ℕ) (local : Bool) (place : Option (ℕ × List ℕ)) (kind : Kind) (bytes : List ℕ) (tag : Option Uid) (v : State) → has_usn v ≡ true → has_fid v ≡ true
    → IsVolume (added op local (new_object v place kind bytes tag local) v)
    → IsKept (added op local (new_object v place kind bytes tag local) v) v.next_fid (max v.next_usn (own_version v.own tag))
kept_added op local place kind bytes tag v usn fid valid = record {
  valid = valid;
  fid = fid_added op local (new_object v place kind bytes tag local) v refl fid;
  usn = usn_added op local (new_object v place kind bytes tag local) v refl (most local) usn;
}
  where
    most : (b : Bool) → (if b then v.next_usn else 0) ≤ v.next_usn
    most true = omega arith
    most false = omega arith

-- a stamped object has no USN above the new one and its own
pub most_stamped : (f : Object → Object) (own usn : ℕ) → ((x : Object) → (f x).born ≡ x.born) → ((x : Object) → (f x).tag ≡ x.tag) → ((x : Object) → (f x).last_local ≡ x.last_local) → (local : Bool) (x : Object) → usn_in own (stamp local usn (f x)) ≤ max (usn_in own x) usn
most_stamped f own usn borns tags lasts true x = let a = borns x in let b = ap (own_version own) (tags x) in omega arith
most_stamped f own usn borns tags lasts false x = let a = borns x in let b = ap (own_version own) (tags x) in let d = lasts x in omega arith

kept_edited : (op : ℕ) (local : Bool) (fid : ℕ) (f : Object → Object) (v : State) (top_fid top_usn : ℕ) → ((x : Object) → (f x).fid ≡ x.fid) → ((x : Object) → (f x).born ≡ x.born) → ((x : Object) → (f x).tag ≡ x.tag) → ((x : Object) → (f x).last_local ≡ x.last_local)
    → IsKept v top_fid top_usn → has_usn v ≡ true → IsSome (object_at v.objects fid) → IsVolume (edited op local fid f v) → IsKept (edited op local fid f v) top_fid v.next_usn
kept_edited op local fid f v top_fid top_usn fids borns tags lasts k usn there valid = record {
  valid = valid;
  fid = let o = there_of (object_at v.objects fid) there in k.fid ∙ fid_edited op local fid f o.0 v fids o.1;
  usn = usn_edited op local fid f v (most_stamped f v.own v.next_usn borns tags lasts local) usn;
}

pub kept_place : (op : ℕ) (local : Bool) (fid : ℕ) (place : Option (ℕ × List ℕ)) (v : State) (top_fid top_usn : ℕ)
    → IsKept v top_fid top_usn → has_usn v ≡ true → IsSome (object_at v.objects fid) → IsVolume (edited op local fid (at_place place) v) → IsKept (edited op local fid (at_place place) v) top_fid v.next_usn
kept_place op local fid place v top_fid top_usn = kept_edited op local fid (at_place place) v top_fid top_usn (λ x. refl) (λ x. refl) (λ x. refl) (λ x. refl)

pub kept_fill : (op : ℕ) (local : Bool) (fid : ℕ) (bytes : List ℕ) (v : State) (top_fid top_usn : ℕ)
    → IsKept v top_fid top_usn → has_usn v ≡ true → IsSome (object_at v.objects fid) → IsVolume (edited op local fid (with_bytes bytes) v) → IsKept (edited op local fid (with_bytes bytes) v) top_fid v.next_usn
kept_fill op local fid bytes v top_fid top_usn = kept_edited op local fid (with_bytes bytes) v top_fid top_usn (λ x. refl) (λ x. refl) (λ x. refl) (λ x. refl)

pub kept_gone : (op : ℕ) (local : Bool) (fid : ℕ) (v : State) (top_fid top_usn : ℕ)
    → IsKept v top_fid top_usn → has_usn v ≡ true → IsSome (object_at v.objects fid) → IsVolume (gone op local fid v) → IsKept (gone op local fid v) top_fid v.next_usn
kept_gone op local fid v top_fid top_usn k usn there valid = record {
  valid = valid;
  fid = let o = there_of (object_at v.objects fid) there in k.fid ∙ fid_gone op local fid o.0 v o.1;
  usn = usn_gone op local fid v usn;
}
