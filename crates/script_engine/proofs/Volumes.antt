-- The lists of a volume of a world.
use Rattle.std.proofs.Common.{◌≡◌, ◌<◌, ◌≤◌, ◌+◌, ℕ, zero, suc, Bool, true, eqb, List, [], ◌∷◌, ◌++◌, refl, sym, ap, ◌∙◌, subst, arith, inl, inr, Option, Some, None}
use Rattle.std.specs.Prelude.{option_map}
use Rattle.std.proofs.lemmas.Bool.Decides.{nat_tests, eqb_tells}
use Rattle.std.proofs.lemmas.List.{length-append}
use Rattle.frs_base.specs.Options.{In, none_or}
use Rattle.frs_base.specs.declared.version.Uid.{Uid}
use Rattle.vol_state.specs.declared.object.Object.{Object}
use Rattle.vol_state.specs.declared.record.VolRecord.{VolRecord}
use Rattle.vol_state.specs.declared.command.VolCmd.{VolCmd}
use Rattle.vol_state.specs.declared.command.VolCmd.TheVariants.{PutNew, PutOver, Mkdir, Move, Remove, Park, Erase, Make, Rewrite, Place}
use Rattle.vol_state.specs.Places.{above, above_it, ends_in}
use Rattle.vol_state.specs.State.{State, uid_of}
use Rattle.vol_state.specs.Journal.{IsNumbered, RunsFrom, record_at}
use Rattle.vol_state.specs.Numbers.{greatest, greatest_fid, greatest_usn, own_version, usn_in}
use Rattle.vol_state.specs.Tree.{AreRising, IsHome}
use Rattle.vol_state.specs.Effects.{at_place, effect, logged, stamp, with_bytes}
use Rattle.vol_state.specs.Valid.{IsVolume}
use Rattle.vol_state.specs.Laws.{AreFree}
use Rattle.vol_state.specs.Maps.{Maps, Stands, fresh_maps, write}
use Rattle.vol_state.specs.Seen.{fresh_state}
use Rattle.vol_state.specs.Tables.{IsAt, IsLocal, LeadsBy}
use Rattle.vol_state.proofs.Climbing.{by_cases, differ}
use Rattle.vol_state.proofs.Finding.{in_at}
use Rattle.vol_state.proofs.Runs.{run_push}
use Rattle.vol_state.proofs.Standing.{begins_standing, stands_on}
use Rattle.vol_state.proofs.Tabling.{child_by, directory_at, tables_are_tests}
use Rattle.vol_state.proofs.Tops.{greatest_in, objects_fid}
use Rattle.vol_state.proofs.Trees.{rising_edit, rising_push, rising_without}
use Rattle.world_model.specs.World.{World}
use Rattle.world_model.specs.Events.{Step, Local, operated}
use Rattle.world_model.specs.Invariant.{Invariant, PlacesAreATree, NumbersAreFresh}
use Rattle.world_model.proofs.Changing.{at_same}
use Rattle.world_model.proofs.Facts.{some_is}
use Rattle.world_model.proofs.Names.{matches_sym, matches_trans}
use Rattle.world_model.proofs.Sums.{AreSummed}
use Rattle.script_engine.specs.Sound.{AreLists}

-- ---- what lists are, by the maps for which they stand

-- an object of the lists is one of the maps
at_of : (v : State) (m : Maps) → AreRising 0 v.objects → Stands v m → (o : Object) → In o v.objects → IsAt m o.fid o
at_of v m up s o i = s.objects o.fid ∙ in_at 0 o v.objects up i

-- objects with one number are one
one_of : (v : State) (m : Maps) → AreRising 0 v.objects → Stands v m → (a b : Object) → In a v.objects → In b v.objects → a.fid ≡ b.fid → a ≡ b
one_of v m up s a b i j e = some_is a b (sym (at_of v m up s a i) ∙ ap m.at e ∙ at_of v m up s b j)

ends_root : (v : State) (m : Maps) → m.at 0 ≡ None → Stands v m → (n fid : ℕ) → fid ≡ 0 → ends_in v.objects (suc n) fid ≡ true
ends_root v m root s n fid e = ap (λ x. none_or (ends_in v.objects n) (above_it x)) (sym (s.objects fid) ∙ ap m.at e ∙ root)

ends_by : (v : State) (m : Maps) → m.at 0 ≡ None → Stands v m → (n fid : ℕ) → LeadsBy true m n fid → ends_in v.objects (suc n) fid ≡ true
ends_by v m root s zero fid l = ends_root v m root s zero fid l
ends_by v m root s (suc n) fid (inl e) = ends_root v m root s (suc n) fid e
ends_by v m root s (suc n) fid (inr (o, at, inl (t, none))) =
    ap (λ x. none_or (ends_in v.objects (suc n)) (above_it x)) (sym (s.objects fid) ∙ at) ∙ ap (λ x. none_or (ends_in v.objects (suc n)) (option_map (λ p. p.0) x)) none
ends_by v m root s (suc n) fid (inr (o, at, inr (p, place, more))) =
    ap (λ x. none_or (ends_in v.objects (suc n)) (above_it x)) (sym (s.objects fid) ∙ at) ∙ ap (λ x. none_or (ends_in v.objects (suc n)) (option_map (λ p. p.0) x)) place
    ∙ ends_by v m root s n p.0 more

volume_is : (own : ℕ) (consumed : ℕ) (v : State) (m : Maps) → PlacesAreATree own m → NumbersAreFresh m consumed → AreSummed m → AreRising 0 v.objects → v.own ≡ own → Stands v m
    → IsVolume v
volume_is own consumed v m places numbers sums up same s = record {
  tree = record {
    rising = up;
    homes = λ o i. home o i o.place refl;
    ends = λ o i. let (n, l) = places.leads o.fid o (at_of v m up s o i) in (suc n, ends_by v m numbers.root s n o.fid l);
    apart = λ a b parent name i j c d.
        let (p, there, above, fits) = child_by parent name a c in
        let (q, there', above', fits') = child_by parent name b d in
        one_of v m up s a b i j (places.apart a.fid b.fid a b p q (at_of v m up s a i) (at_of v m up s b j) there there' (above ∙ sym above') (matches_trans p.1 name q.1 fits (matches_sym q.1 name fits')));
  };
  uids = λ a b i j e. one_of v m up s a b i j (places.uids a.fid b.fid a b (at_of v m up s a i) (at_of v m up s b j) (subst (λ d. uid_of d a ≡ uid_of d b) same e));
  summed = λ o i. sums o.fid o (at_of v m up s o i);
}
  where
    home : (o : Object) → In o v.objects → (place : Option (ℕ × List ℕ)) → o.place ≡ place → IsHome v.objects place
    home o i None e = tt
    home o i (Some p) e = directory_at v m s p.0 (places.parents o.fid o p (at_of v m up s o i) e)

-- ---- numbers

greatest_below : {T : Type 0} (f : T → ℕ) (n : ℕ) (xs : List T) → 0 < n → ((x : T) → In x xs → f x < n) → greatest f xs < n
greatest_below f n [] p h = p
greatest_below f n (x ∷ xs) p h = let a = h x (inl refl) in let b = greatest_below f n xs p (λ y i. h y (inr i)) in omega arith

-- a record of the journal is found by its USN
record_in : (low : ℕ) (r : VolRecord) (rs : List VolRecord) → RunsFrom low rs → In r rs → (low ≤ r.usn) × (record_at rs r.usn ≡ Some r)
record_in low r [] run i = absurd i
record_in low r (x ∷ rs) run (inl e) =
    let u : r.usn ≡ x.usn = ap (λ z. z.usn) e in
    let t : eqb x.usn r.usn ≡ true = grind (arith, nat_tests) in
    (omega (arith, run.0), rw t (ap Some (sym e)))
record_in low r (x ∷ rs) run (inr i) =
    let h = record_in (low + 1) r rs run.1 i in
    (omega (arith, h.0), rw (differ x.usn r.usn (λ e. omega (arith, h.0, run.0, e))) h.1)

-- a tag of the own database is of a version that is consumed
tag_below : (w : World) (d : ℕ) → Invariant w → (f : ℕ) (o : Object) (t : Uid) → IsAt (w.at d).volume f o → o.tag ≡ Some t → t.db ≡ d → t.version < (w.at d).volume.next_usn
tag_below w d h f o t at is own =
    let (u, r, same) = (h.members d).objects.tagged f o t at is in
    let below : t.version < (w.at t.db).consumed = subst (λ (x : Uid). x.version < (w.at x.db).consumed) same (h.files.made u r.among.0) in
    let here : t.version < (w.at d).consumed = subst (λ x. t.version < (w.at x).consumed) own below in
    let most = (h.members d).numbers.consumed_is in
    omega (arith, here, most)

free_is : (w : World) (d : ℕ) (v : State) → Invariant w → AreRising 0 v.objects → IsNumbered v → v.own ≡ d → Stands v (w.at d).volume → AreFree v
unfolding greatest_fid greatest_usn
free_is w d v h up numbered own s =
    let numbers = (h.members d).numbers in
    let fids : (o : Object) → In o v.objects → o.fid < v.next_fid = λ o i. let k = numbers.fids o.fid o (at_of v (w.at d).volume up s o i) in let e = s.next_fid in omega (arith, k, e) in
    let there : (r : VolRecord) → In r v.journal → (w.at d).volume.entry r.usn ≡ Some r = λ r i. s.entries r.usn ∙ (record_in 9 r v.journal numbered.run i).1 in
    let named : (r : VolRecord) → In r v.journal → r.fid < v.next_fid = λ r i. let k = numbers.named r.usn r (there r i) in let e = s.next_fid in omega (arith, k, e) in
    let usns : (r : VolRecord) → In r v.journal → r.usn < v.next_usn = λ r i. let k = numbers.entries r.usn r (there r i) in let e = s.next_usn in omega (arith, k, e) in
    let some_fid : 0 < v.next_fid = let k = numbers.next in let e = s.next_fid in omega (arith, k, e) in
    let some_usn : 0 < v.next_usn = let k = numbered.next in omega (arith, k) in
    let a = greatest_below (λ (o : Object). o.fid) v.next_fid v.objects some_fid fids in
    let b = greatest_below (λ (r : VolRecord). r.fid) v.next_fid v.journal some_fid named in
    let c = greatest_below (usn_in v.own) v.next_usn v.objects some_usn in_objects in
    let e = greatest_below (λ (r : VolRecord). r.usn) v.next_usn v.journal some_usn usns in
    record { fid = omega (arith, a, b); usn = omega (arith, c, e) }
  where
    tags : (o : Object) (tag : Option Uid) → In o v.objects → o.tag ≡ tag → own_version v.own tag < v.next_usn
    tags o None i is = let k = numbered.next in omega (arith, k)
    tags o (Some t) i is = by_cases (eqb_tells t.db v.own)
        (λ y. rw y.0 (let k = tag_below w d h o.fid o t (at_of v (w.at d).volume up s o i) is (y.1 ∙ own) in let e = s.next_usn in omega (arith, k, e)))
        (λ y. rw y.0 (let k = numbered.next in omega (arith, k)))

    in_objects : (o : Object) → In o v.objects → usn_in v.own o < v.next_usn
    in_objects o i =
        let at = at_of v (w.at d).volume up s o i in
        let born = (h.members d).numbers.born o.fid o at in
        let last = (h.members d).numbers.last o.fid o at in
        let tag = tags o o.tag i refl in
        let e = s.next_usn in
        omega (arith, born, last, tag, e)

-- lists that rise and are numbered are a volume's
pub lists_are : (w : World) (d : ℕ) (v : State) → Invariant w → AreRising 0 v.objects → IsNumbered v → v.own ≡ d → Stands v (w.at d).volume → AreLists d (w.at d).volume v
lists_are w d v h up numbered own s = record {
  valid = volume_is d (w.at d).consumed v (w.at d).volume (h.members d).places (h.members d).numbers (h.sums.objects d) up own s;
  free = free_is w d v h up numbered own s;
  numbered = numbered;
  own = own;
  stands = s;
}

-- ---- a local operation

pub numbered_logged : (v : State) (objects : List Object) (next_fid fid : ℕ) (uid : Uid) (op : ℕ) (local : Bool) → IsNumbered v → IsNumbered (logged fid uid op local (record v { objects = objects; next_fid = next_fid }))
numbered_logged v objects next_fid fid uid op local h = record {
  run = run_push 9 v.journal (record { usn = v.next_usn; fid = fid; uid = uid; op = op; local = local }) h.run h.next;
  next = omega (arith, h.next, length-append v.journal (record { usn = v.next_usn; fid = fid; uid = uid; op = op; local = local } ∷ []));
}

-- what a local command leaves of the lists
pub record Leaves (v new : State) : Type 0 where
  pub rising : AreRising 0 new.objects
  pub numbered : IsNumbered new
  pub own : new.own ≡ v.own

pub pushed : (v : State) (n : Object) → IsVolume v → AreFree v → n.fid ≡ v.next_fid → AreRising 0 (v.objects ++ n ∷ [])
pushed v n h free e =
    let most = objects_fid v in
    let top = free.fid in
    rising_push n 0 v.objects h.tree.rising (omega (arith, most, top, e)) (λ o i. let k = greatest_in (λ (x : Object). x.fid) v.objects o i in omega (arith, most, top, e, k))

leaves : (op : VolCmd) (v : State) (m : Maps) → IsVolume v → AreFree v → IsNumbered v → IsLocal m op → Leaves v (effect op v)
leaves (PutNew parent name bytes) v m h free n l = record { rising = pushed v _ h free refl; numbered = numbered_logged v _ _ _ _ 1 true n; own = refl }
leaves (PutOver fid bytes) v m h free n l =
    record { rising = rising_edit (λ o. stamp true v.next_usn (with_bytes bytes o)) (λ o. refl) fid 0 v.objects h.tree.rising; numbered = numbered_logged v _ v.next_fid _ _ 2 true n; own = refl }
leaves (Mkdir parent name) v m h free n l = record { rising = pushed v _ h free refl; numbered = numbered_logged v _ _ _ _ 3 true n; own = refl }
leaves (Move fid parent name) v m h free n l =
    record { rising = rising_edit (λ o. stamp true v.next_usn (at_place (Some (parent, name)) o)) (λ o. refl) fid 0 v.objects h.tree.rising; numbered = numbered_logged v _ v.next_fid _ _ 4 true n; own = refl }
leaves (Remove fid) v m h free n l = record { rising = rising_without fid 0 v.objects h.tree.rising; numbered = numbered_logged v _ v.next_fid _ _ 5 true n; own = refl }
leaves (Park fid) v m h free n l = absurd l
leaves (Erase fid) v m h free n l = absurd l
leaves (Make uid kind bytes) v m h free n l = absurd l
leaves (Rewrite fid bytes) v m h free n l = absurd l
leaves (Place fid parent name) v m h free n l = absurd l

-- a member whose volume is one of lists has one after each local operation
pub local_lists : (w : World) (d : ℕ) (op : VolCmd) (new : World) → Step w d (Local op) new → Invariant new
    → (v : State) × AreLists d (w.at d).volume v → (v : State) × AreLists d (write d op (w.at d).volume) v
local_lists w d op new step h (v, l) =
    let m = (w.at d).volume in
    let left = leaves op v m l.valid l.free l.numbered step.0 in
    let stands : Stands (effect op v) (write v.own op m) = stands_on op v m l.valid l.free (tables_are_tests op v m l.valid l.free l.stands (inl step.0)) l.stands in
    let own : Stands (effect op v) (write d op m) = subst (λ x. Stands (effect op v) (write x op m)) l.own stands in
    let here : (new.at d).volume ≡ write d op m = ap (λ (z : World). (z.at d).volume) step.1 ∙ ap (λ x. x.volume) (at_same w.at d (operated d op (w.at d))) in
    (effect op v, subst (λ m. AreLists d m (effect op v)) here (lists_are new d (effect op v) h left.rising left.numbered (left.own ∙ l.own) (subst (Stands (effect op v)) (sym here) own)))

-- ---- nothing in it

pub fresh_lists : (own : ℕ) → AreLists own fresh_maps (fresh_state own)
unfolding greatest_fid greatest_usn
fresh_lists own = record {
  valid = record {
    tree = record { rising = tt; homes = λ o i. absurd i; ends = λ o i. absurd i; apart = λ a b parent name i j u v. absurd i };
    uids = λ a b i j e. absurd i;
    summed = λ o i. absurd i;
  };
  free = record { fid = omega arith; usn = omega arith };
  numbered = record { run = tt; next = refl };
  own = refl;
  stands = begins_standing own;
}
