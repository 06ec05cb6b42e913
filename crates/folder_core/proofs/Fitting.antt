-- An update that isn't refused is fit to be taken.
use Rattle.std.proofs.Common.{◌≡◌, ◌≢◌, ◌<◌, ◌-◌, ◌^◌, ℕ, Bool, true, false, not, cond, eqb, ◌&&◌, List, [], ◌∷◌, Option, Some, None, refl, sym, ap, ◌∙◌, subst, inl, inr, arith}
use Rattle.std.specs.Prelude.{find, if◌then◌else◌, option_map}
use Rattle.std.specs.Bool.{beq}
use Rattle.std.proofs.lemmas.Bool.Decides.{nat_tests}
use Rattle.frs_base.specs.Identifiers.{content_set}
use Rattle.frs_base.specs.Options.{In, kept_if, none_or}
use Rattle.frs_base.specs.Versions.{same_uid}
use Rattle.frs_base.specs.declared.kind.Kind.{Kind}
use Rattle.frs_base.specs.declared.kind.Kind.TheVariants as kind
use Rattle.frs_base.specs.declared.version.Uid.{Uid}
use Rattle.version_vector.specs.Versions.{covers}
use Rattle.win_order.specs.Order.{is_directory, key_lt, key_of}
use Rattle.win_order.specs.Refusals.{has_no_version, is_compressed, is_of_root, is_skewed, unfit_of}
use Rattle.win_order.specs.declared.unfit.Unfit.TheVariants as reason
use Rattle.win_order.specs.declared.update.Update.{Update}
use Rattle.vol_state.specs.declared.object.Object.{Object}
use Rattle.vol_state.specs.Conditions.{root_uid}
use Rattle.vol_state.specs.Places.{object_at}
use Rattle.vol_state.specs.State.{State, object_of, uid_of}
use Rattle.vol_state.specs.Valid.{IsVolume}
use Rattle.vol_state.specs.Maps.{maps_of}
use Rattle.vol_state.specs.Tables.{IsAt}
use Rattle.record_db.specs.Steps.{gives_way}
use Rattle.record_db.proofs.Keys.{same_uid_is, same_uid_refl}
use Rattle.record_db.proofs.Lists.{find_at}
use Rattle.name_rules.specs.Recorded.{held_of}
use Rattle.name_rules.specs.Tree.{kind_of}
use Rattle.world_model.specs.Folder.{IsFit, IsFound}
use Rattle.folder_core.specs.declared.refusal.Refusal.TheVariants.{Beaten, Doubled, KindDiffers, OwnAhead, Unfit as IsUnfit}
use Rattle.folder_core.specs.Machine.{Machine, first_of, is_ahead}
use Rattle.folder_core.specs.Adopt.{adopt_refusal, beaten, doubled, kind_at, kind_differs, own_ahead, same_kind, unfit}
use Rattle.folder_core.specs.Sound.{IsInOrder, member_of}
use Rattle.folder_core.proofs.Held.{held_is}

-- ---- options

none_some : {T : Type 0} (x : T) → Some x ≡ None → ⊥
none_some x e = cc

true_false : (b : Bool) → b ≡ true → b ≡ false → ⊥
true_false b p q = cc

-- where there is no first of several answers, none of them is one
first_none : {T : Type 0} (x : Option T) (rest : List (Option T)) → first_of (x ∷ rest) ≡ None → (x ≡ None) × (first_of rest ≡ None)
first_none None rest e = (refl, e)
first_none (Some x) rest e = absurd (none_some x e)

map_none : {S T : Type 0} (f : S → T) (x : Option S) → option_map f x ≡ None → x ≡ None
map_none f None e = refl
map_none f (Some x) e = absurd (none_some (f x) e)

kept_none : {T : Type 0} (test : T → Bool) (x : T) → kept_if test (Some x) ≡ None → test x ≡ false
kept_none test x e = by (test x) refl e
  where
    by : (b : Bool) → test x ≡ b → cond b (Some x) None ≡ None → test x ≡ false
    by true t e = absurd (none_some x e)
    by false t e = t

choice_none : {T : Type 0} (b : Bool) (x : T) (rest : Option T) → cond b (Some x) rest ≡ None → (b ≡ false) × (rest ≡ None)
choice_none true x rest e = absurd (none_some x e)
choice_none false x rest e = (refl, e)

-- ---- what isn't refused

-- what isn't refused as unfit
pub record IsTaken (set : ℕ) (u : Update) : Type 0 where
  pub set_is : u.set ≡ set
  pub clock : u.clock < 2 ^ 62
  pub version : (u.gvsn.version ≡ 2 ^ 64 - 1) → ⊥
  pub root : is_of_root u ≡ false

not_equal : (a b : ℕ) → not (eqb a b) ≡ false → a ≡ b
not_equal a b e = grind (arith, nat_tests)

small_clock : (u : Update) → is_skewed u ≡ false → u.clock < 2 ^ 62
small_clock u e = grind (arith, nat_tests)

not_last : (u : Update) → has_no_version u ≡ false → u.gvsn.version ≡ 2 ^ 64 - 1 → ⊥
not_last u e last = grind (arith, nat_tests)

taken : (set : ℕ) (u : Update) → unfit_of u set ≡ None → IsTaken set u
taken set u e =
    let first = choice_none (not (eqb u.set set)) reason.WrongSet _ e in
    let second = choice_none (is_compressed u) reason.Compressed _ first.1 in
    let third = choice_none (is_skewed u) reason.Skewed _ second.1 in
    let fourth = choice_none (has_no_version u) reason.Version _ third.1 in
    let fifth = choice_none (is_of_root u) reason.Root None fourth.1 in
    record { set_is = not_equal u.set set first.0; clock = small_clock u third.0; version = not_last u fourth.0; root = fifth.0 }

behind : (m : Machine) (db version : ℕ) → is_ahead m db version ≡ false → db ≡ m.book.own → version < m.book.consumed
behind m db version e own = grind (arith, nat_tests)

-- none of the refusals of an update stands
pub record IsClear (m : Machine) (u : Update) : Type 0 where
  pub taken : IsTaken m.book.set u
  pub version_ahead : is_ahead m u.gvsn.db u.gvsn.version ≡ false
  pub file_ahead : is_ahead m u.uid.db u.uid.version ≡ false
  pub kinds : kind_differs m u ≡ None
  pub beaten : beaten m u ≡ None
  pub new : covers m.book.vector u.gvsn ≡ false

pub is_clear : (m : Machine) (u : Update) → adopt_refusal m u ≡ None → IsClear m u
is_clear m u e =
    let first = first_none (unfit m u) _ e in
    let second = first_none (own_ahead m u) _ first.1 in
    let third = first_none (kind_differs m u) _ second.1 in
    let fourth = first_none (beaten m u) (doubled m u ∷ []) third.1 in
    let fifth = first_none (doubled m u) [] fourth.1 in
    let ahead = choice_none (is_ahead m u.gvsn.db u.gvsn.version) (OwnAhead u.gvsn.version) _ second.0 in
    let file = choice_none (is_ahead m u.uid.db u.uid.version) (OwnAhead u.uid.version) None ahead.1 in
    record {
      taken = taken m.book.set u (map_none IsUnfit (unfit_of u m.book.set) first.0);
      version_ahead = ahead.0;
      file_ahead = file.0;
      kinds = third.0;
      beaten = fourth.0;
      new = (choice_none (covers m.book.vector u.gvsn) (Doubled u.gvsn) None fifth.0).0;
    }

-- ---- kinds

kind_is : (a b : Kind) → not (same_kind a b) ≡ false → a ≡ b
kind_is kind.File kind.File e = refl
kind_is kind.File kind.Directory e = absurd (cc)
kind_is kind.Directory kind.File e = absurd (cc)
kind_is kind.Directory kind.Directory e = refl

-- what the member has of the file is of the update's kind
kinds_agree : (m : Machine) (u : Update) (held : Kind) → kind_differs m u ≡ None → kind_at m u.uid ≡ Some held → held ≡ kind_of u
kinds_agree m u held none at =
    kind_is held (kind_of u) (kept_none (λ k. not (same_kind k (kind_of u))) held
    (subst (λ found. kept_if (λ k. not (same_kind k (kind_of u))) found ≡ None) at (map_none KindDiffers _ none)))

-- an object of a volume is found by its UID
found_by : (own : ℕ) (objects : List Object) (o : Object) → In o objects → (b : Object) × (find (λ x. same_uid (uid_of own x) (uid_of own o)) objects ≡ Some b) × In b objects × (uid_of own b ≡ uid_of own o)
found_by own [] o a = absurd a
found_by own (x ∷ xs) o a = by (same_uid (uid_of own x) (uid_of own o)) refl a (λ later. found_by own xs o later)
  where
    by : (b : Bool) → same_uid (uid_of own x) (uid_of own o) ≡ b → In o (x ∷ xs)
        → (In o xs → (y : Object) × (find (λ z. same_uid (uid_of own z) (uid_of own o)) xs ≡ Some y) × In y xs × (uid_of own y ≡ uid_of own o))
        → (y : Object) × (cond b (Some x) (find (λ z. same_uid (uid_of own z) (uid_of own o)) xs) ≡ Some y) × In y (x ∷ xs) × (uid_of own y ≡ uid_of own o)
    by true e a later = (x, refl, inl refl, same_uid_is (uid_of own x) (uid_of own o) e)
    by false e (inl same) later = absurd (true_false (same_uid (uid_of own x) (uid_of own o)) (ap (λ z. same_uid (uid_of own z) (uid_of own o)) (sym same) ∙ same_uid_refl (uid_of own o)) e)
    by false e (inr b) later = let (y, is, there, same) = later b in (y, is, inr there, same)

object_in : (objects : List Object) (fid : ℕ) (o : Object) → object_at objects fid ≡ Some o → In o objects
object_in [] fid o e = absurd (cc)
object_in (x ∷ xs) fid o e = by (eqb x.fid fid) e (λ later. object_in xs fid o later)
  where
    by : (b : Bool) → cond b (Some x) (object_at xs fid) ≡ Some o → (object_at xs fid ≡ Some o → In o xs) → In o (x ∷ xs)
    by true e later = inl (cc)
    by false e later = inr (later e)

pub object_found : (v : State) → IsVolume v → (fid : ℕ) (o : Object) (uid : Uid) → IsAt (maps_of v) fid o → uid_of v.own o ≡ uid → object_of v uid ≡ Some o
object_found v volume fid o uid at same =
    let there = object_in v.objects fid o at in
    let (b, is, found, alike) = found_by v.own v.objects o there in
    subst (λ id. object_of v id ≡ Some o) same (is ∙ ap (λ z. Some z) (volume.uids b o found there alike))

-- ---- what is fit

none_held : (records : List Update) (uid : Uid) → ((v : Update) → In v records → v.uid ≢ uid) → held_of records uid ≡ None
none_held records uid never = by (held_of records uid) refl (held_is records uid)
  where
    by : (held : Option Update) → held_of records uid ≡ held → IsFound records uid held → held_of records uid ≡ None
    by None e h = e
    by (Some v) e h = absurd (never v h.0 h.1)

not_root : (u : Update) → is_of_root u ≡ false → u.set ≡ content_set → u.uid ≡ root_uid → ⊥
not_root u e set same =
    let db = ap (λ z. z.db) same in
    let version = ap (λ z. z.version) same in
    no (u.uid.db) (u.set) (u.uid.version) e (db ∙ sym set) version
  where
    no : (db set version : ℕ) → (eqb db set && eqb version 1) ≡ false → db ≡ set → version ≡ 1 → ⊥
    no db set version e p q = grind (arith, nat_tests)

-- an update that isn't refused is fit
pub is_fit : (m : Machine) (u : Update) → IsInOrder m → IsClear m u → m.book.set ≡ content_set → IsFit m.book.own (member_of m) m.book.records u
is_fit m u order clear set = record {
  new = clear.new;
  version_ahead = behind m u.gvsn.db u.gvsn.version clear.version_ahead;
  file_ahead = behind m u.uid.db u.uid.version clear.file_ahead;
  root = not_root u clear.taken.root (clear.taken.set_is ∙ set);
  kinds = λ v a same. kinds_agree m u (kind_of v) clear.kinds (ap (λ held. first_of (option_map kind_of held ∷ option_map (λ o. o.kind) (object_of m.volume u.uid) ∷ [])) (find_at m.book.records u.uid v order.book.rising a same));
  object_kind = λ never fid o at same. kinds_agree m u o.kind clear.kinds
      (ap (λ held. first_of (option_map kind_of held ∷ option_map (λ x. x.kind) (object_of m.volume u.uid) ∷ [])) (none_held m.book.records u.uid never)
      ∙ ap (λ found. first_of (None ∷ option_map (λ x. x.kind) found ∷ []))
      (object_found m.volume order.volume fid o u.uid at (ap (λ own. uid_of own o) order.own ∙ same)));
}

-- ---- what gives way

one_kind : (a b : Update) → kind_of a ≡ kind_of b → beq (is_directory a) (is_directory b) ≡ true
one_kind a b e = by (is_directory a) (is_directory b) e
  where
    by : (x y : Bool) → (if x then kind.Directory else kind.File) ≡ (if y then kind.Directory else kind.File) → beq x y ≡ true
    by true true e = refl
    by true false e = absurd (cc)
    by false true e = absurd (cc)
    by false false e = refl

not_false : (b : Bool) → not b ≡ false → b ≡ true
not_false true e = refl
not_false false e = absurd (cc)

-- the record of the file of an update that isn't refused gives way to it
pub gives_way_to : (m : Machine) (u : Update) → IsClear m u → none_or (gives_way u) (held_of m.book.records u.uid) ≡ true
gives_way_to m u clear = by (held_of m.book.records u.uid) refl
  where
    both : (a b : Bool) → a ≡ true → b ≡ true → (a && b) ≡ true
    both true true p q = refl
    both true false p q = absurd (cc)
    both false b p q = absurd (cc)

    by : (held : Option Update) → held_of m.book.records u.uid ≡ held → none_or (gives_way u) held ≡ true
    by None e = refl
    by (Some r) e =
        let same : kind_of r ≡ kind_of u = kinds_agree m u (kind_of r) clear.kinds (ap (λ found. first_of (option_map kind_of found ∷ option_map (λ o. o.kind) (object_of m.volume u.uid) ∷ [])) e) in
        let lower : key_lt (key_of r) (key_of u) ≡ true =
        not_false _ (kept_none (λ held. not (key_lt held (key_of u))) (key_of r)
        (subst (λ found. kept_if (λ held. not (key_lt held (key_of u))) (option_map key_of found) ≡ None) e (map_none Beaten _ clear.beaten))) in
        both _ _ (one_kind r u same) lower
