-- One of two disks is settled and then changed, and the other one is settled.
use Rattle.std.proofs.Common.{◌≡◌, ◌⊎◌, ℕ, ◌+◌, ◌-◌, ◌%◌, ◌^◌, Bool, true, false, List, [], ◌∷◌, ◌++◌, length, map, refl, sym, ap, ◌∙◌, subst, arith, Option, Some, None, inl, inr, if◌then◌else◌}
use Rattle.std.specs.Prelude.{IfSome, MatchOption}
use Rattle.frs_base.specs.Machines.{Rules, Runs}
use Rattle.frs_disk.specs.Crashes.{Crash, IsImage, IsStill, Leaves, Stands, Within, still, synced, unchanged}
use Rattle.frs_disk.specs.Moments.{Goes, MayLeave, Now, Since, Stops, pushed, seen_now, top}
use Rattle.frs_disk.proofs.Moments.{goes_map, goes_trans, only_still}
use Rattle.frs_journal.specs.Damage.{IsRead}
use Rattle.frs_journal.specs.Loads.{AnyMoment, Loads, LoadsEither, NowLeaves}
use Rattle.frs_journal.specs.Gates.{OrSame}
use Rattle.frs_journal.specs.Opens.{Opens, SameList}
use Rattle.frs_journal.specs.State.{State, disk_a, disk_b}
use Rattle.frs_journal.specs.Reading.{generation_at}
use Rattle.frs_journal.specs.Rests.{Always, AtOnce, Kept, Pairs}
use Rattle.frs_journal.specs.Slots.{Holds, IsList, Yields, generation_of, is_bad, serial_at, serial_by, serial_of, slot_a, slot_b, slot_front, taken, takes_b, wire}
use Rattle.frs_journal.specs.Unmade.{IsBegun, IsNone, Opening, fresh_body}
use Rattle.frs_journal.proofs.Begins.{fresh_is}
use Rattle.frs_journal.proofs.Commits.{any_might, loads_slot, now_map}
use Rattle.frs_journal.proofs.Fronts.{front_good, front_marked, front_serial_at, wire_0}
use Rattle.frs_journal.proofs.Openings.{origin_kept}
use Rattle.frs_journal.proofs.SameLists.{either_same}
use Rattle.std.proofs.lemmas.List.Elements.{All-nil}
use Rattle.frs_journal.specs.Slots.{IsShort}

-- each two images have what each two images had before
pub moves_crash : (Q : List ℕ → List ℕ → Type 0) (R : List ℕ → Type 0) (xs : List ℕ) (a mid a' b b' : Option (List Crash))
    → ((c d : List ℕ) → R c → Q xs d → Q c d) → AtOnce Q a b → Now (λ s. Stands s × (s.seen ≡ xs)) a
    → Stops unchanged a mid → Goes (Leaves R) mid a' → Stops unchanged b b' → Always Q a a' b b'
moves_crash Q R xs None mid a' b b' keeps now stands settles opens other = (tt, let P : Option (List Crash) → Type 0 = λ o. Goes (Leaves R) o a' in subst P settles opens)
moves_crash Q R xs (Some ss) mid a' b b' keeps now stands settles opens other =
    (at (top ss) (λ c image. inl image), goes_trans P (Some ss) mid a' (goes_map (Within (top ss)) P (Some ss) mid (λ s w. at s (λ c image. inl (w.images c image))) settles) (goes_map (Leaves R) P mid a' (λ s leaves. at s (λ c image. inr (leaves c image))) opens))
  where
    P : Crash → Type 0
    P s = Since (Pairs Q s) b b'

    pair : (s : Crash) → ((c : List ℕ) → IsImage s c → IsImage (top ss) c ⊎ R c) → (t : Crash) → Pairs Q (top ss) t → Pairs Q s t
    pair s each t was c d ic id = by_kind (each c ic)
      where
        by_kind : IsImage (top ss) c ⊎ R c → Q c d
        by_kind (inl image) = was c d image id
        by_kind (inr other) = keeps c d other (let S : List ℕ → Type 0 = λ l. Q l d in subst S stands.1 (was (top ss).seen d stands.0 id))

    at : (s : Crash) → ((c : List ℕ) → IsImage s c → IsImage (top ss) c ⊎ R c) → P s
    at s each = by_other b now other
      where
        by_other : (o : Option (List Crash)) → Now (Pairs Q (top ss)) o → Stops unchanged o b' → Since (Pairs Q s) o b'
        by_other None was moves = (tt, moves)
        by_other (Some ts) was moves =
            (pair s each (top ts) was, goes_map (Within (top ts)) (Pairs Q s) (Some ts) b' (λ t w. pair s each t (λ c d ic id. was c d ic (w.images d id))) moves)

pub once_of : (Q : List ℕ → List ℕ → Type 0) (a b : Option (List Crash)) → ((x y : List ℕ) → MayLeave a x → MayLeave b y → Q x y) → AtOnce Q a b
once_of Q None b now = tt
once_of Q (Some ss) None now = tt
once_of Q (Some ss) (Some ts) now = λ c d ic id. now c d ic id

-- what a disk at rest leaves
pub still_leaves : (P : List ℕ → Type 0) (o : Option (List Crash)) (ys : List ℕ) → Now IsStill o → IfSome o (λ ss. ys ≡ seen_now ss) → P ys → Now (Leaves P) o
still_leaves P None ys rest is h = tt
still_leaves P (Some ss) ys rest is h = λ c image.
    (let S : Crash → Type 0 = λ t. IsImage t c in subst P (is ∙ sym (only_still (seen_now ss) c (subst S rest image))) h)

module _ {M C : Type 0} (law : Rules M C) where
  opened_state : (keeps : (m : M) (x : C) (n : M) → law.step m x n → law.origin n ≡ law.origin m) (fresh m : M) (bytes : List ℕ) (end serial : ℕ) (told : Option (List Crash)) → law.origin fresh ≡ fresh
      → (o : Opens law fresh bytes m end serial told) → Runs law.step (law.origin m) o.commands m
  opened_state keeps fresh m bytes end serial told is_fresh o =
      let P : M → Type 0 = λ k. Runs law.step k o.commands m in subst P (sym (origin_kept law keeps fresh m o.commands o.runs ∙ is_fresh)) o.runs

  opened_marked : (fresh m : M) (bytes : List ℕ) (end serial : ℕ) (told : Option (List Crash)) → (o : Opens law fresh bytes m end serial told) → generation_of bytes ≡ Some (wire (generation_at bytes))
  opened_marked fresh m bytes end serial told o = ap generation_of o.whole ∙ front_marked (generation_at bytes) (serial_at bytes) (o.mark ++ map law.code o.commands) o.gate o.rest

  opened_count : (fresh m : M) (bytes : List ℕ) (end serial : ℕ) (told : Option (List Crash)) → (o : Opens law fresh bytes m end serial told) → serial ≡ (wire (serial_at bytes) + (length o.commands - o.saved)) % 2 ^ 64
  opened_count fresh m bytes end serial told o =
      let e : serial_at bytes ≡ wire (serial_at bytes) = ap serial_at o.whole ∙ front_serial_at (generation_at bytes) (serial_at bytes) (o.mark ++ map law.code o.commands) o.gate o.rest in
      o.count ∙ ap (λ n. (n + (length o.commands - o.saved)) % 2 ^ 64) e

  pub opened_kept : (keeps : (m : M) (x : C) (n : M) → law.step m x n → law.origin n ≡ law.origin m) (fresh m : M) (in_b : Bool) (bytes : List ℕ) (end serial : ℕ) (a b : Option (List Crash))
      → law.origin fresh ≡ fresh → Opens law fresh bytes m end serial a → Now (Leaves (Yields in_b (generation_of bytes))) b → Kept law m in_b end serial a b
  opened_kept keeps fresh m in_b bytes end serial a b is_fresh o yields = by_told a o.disk
    where
      F : List ℕ
      F = slot_front (generation_at bytes) (serial_at bytes) (o.mark ++ map law.code o.commands)

      by_told : (p : Option (List Crash)) → Now (λ s. s ≡ still (F ++ o.gate ∷ [])) p → Kept law m in_b end serial p b
      by_told None at = tt
      by_told (Some ss) at =
          let e : generation_of (seen_now ss) ≡ generation_of bytes =
          ap (λ (t : Crash). generation_of t.seen) at ∙ front_marked (generation_at bytes) (serial_at bytes) (o.mark ++ map law.code o.commands) o.gate [] ∙ sym (opened_marked fresh m bytes end serial a o) in
          let Y : Option ℕ → Type 0 = λ g. Now (Leaves (Yields in_b g)) b in
          record {
            commands = o.commands;
            mark = o.mark;
            saved = o.saved;
            generation = generation_at bytes;
            first = serial_at bytes;
            closing = o.gate;
            marked = o.marked;
            enough = o.enough;
            closed = o.closed;
            known = o.known;
            short = o.short;
            bytes = at;
            size = o.size;
            count = opened_count fresh m bytes end serial a o;
            runs = opened_state keeps fresh m bytes end serial a is_fresh o;
            yields = subst Y (sym e) yields;
          }

  pub opened_loads : (keeps : (m : M) (x : C) (n : M) → law.step m x n → law.origin n ≡ law.origin m) (fresh m : M) (in_b : Bool) (bytes others : List ℕ) (end serial : ℕ) (a : Option (List Crash))
      → law.origin fresh ≡ fresh → Opens law fresh bytes m end serial a → Yields in_b (generation_of bytes) others → Loads law m serial (slot_a in_b bytes others) (slot_b in_b bytes others)
  opened_loads keeps fresh m in_b bytes others end serial a is_fresh o yields =
      let Y : Option ℕ → Type 0 = λ g. Yields in_b g others in
      loads_slot law m serial in_b o.commands o.mark o.saved (generation_at bytes) (serial_at bytes) o.gate o.rest bytes others o.marked o.enough o.known o.short
      (opened_state keeps fresh m bytes end serial a is_fresh o) o.whole o.closed (subst Y (opened_marked fresh m bytes end serial a o) yields) (opened_count fresh m bytes end serial a o)

  -- ---- neither slot is valid

  none_picked : (c d : List ℕ) → IsNone c → (ps : List (List ℕ)) → IsList (taken c d) ps → IsList (if takes_b None (generation_of d) then d else c) ps
  none_picked c d none ps h = let P : Option ℕ → Type 0 = λ g. IsList (if takes_b g (generation_of d) then d else c) ps in subst P none.unmarked h

  none_list : (xs c : List ℕ) (ps : List (List ℕ)) → IsNone xs → IsNone c → IsList xs ps → IsList c ps
  none_list xs c ps none here h =
      let P : Option ℕ → Type 0 = λ g. MatchOption g (ps ≡ []) (λ _. Holds xs ps) in
      let Q : Option ℕ → Type 0 = λ g. MatchOption g (ps ≡ []) (λ _. Holds c ps) in
      subst Q (sym here.unmarked) (subst P none.unmarked h)

  none_serial : (xs c : List ℕ) → IsNone xs → IsNone c → serial_of xs ≡ serial_of c
  none_serial xs c none here = ap (λ g. serial_by g (serial_at xs)) none.unmarked ∙ sym (ap (λ g. serial_by g (serial_at c)) here.unmarked)

  pick_list : (t : Bool) (d xs c : List ℕ) (ps : List (List ℕ)) → (IsList xs ps → IsList c ps) → IsList (if t then d else xs) ps → IsList (if t then d else c) ps
  pick_list true d xs c ps f h = h
  pick_list false d xs c ps f h = f h

  pick_serial : (t : Bool) (d xs c : List ℕ) → serial_of xs ≡ serial_of c → serial_of (if t then d else xs) ≡ serial_of (if t then d else c)
  pick_serial true d xs c e = refl
  pick_serial false d xs c e = e

  none_loads : (m : M) (k : ℕ) (xs c d : List ℕ) → IsNone xs → IsNone c → Loads law m k xs d → Loads law m k c d
  none_loads m k xs c d none here l =
      let ps : List (List ℕ) = l.mark ++ map law.code l.commands in
      let t : Bool = takes_b None (generation_of d) in
      let P : Option ℕ → Type 0 = λ g. IsList (if takes_b g (generation_of d) then d else c) (l.mark ++ map law.code l.commands) in
      let e : serial_of (taken xs d) ≡ serial_of (taken c d) =
      ap (λ g. serial_of (if takes_b g (generation_of d) then d else xs)) none.unmarked ∙ pick_serial (takes_b None (generation_of d)) d xs c (none_serial xs c none here)
      ∙ sym (ap (λ g. serial_of (if takes_b g (generation_of d) then d else c)) here.unmarked) in
      record {
        commands = l.commands;
        mark = l.mark;
        saved = l.saved;
        marked = l.marked;
        enough = l.enough;
        known = l.known;
        log = record {
          good_a = here.fine;
          good_b = l.log.good_b;
          list = subst P (sym here.unmarked) (pick_list (takes_b None (generation_of d)) d xs c (l.mark ++ map law.code l.commands) (none_list xs c (l.mark ++ map law.code l.commands) none here)
              (none_picked xs d none (l.mark ++ map law.code l.commands) l.log.list));
        };
        runs = l.runs;
        count = l.count ∙ ap (λ s. (s + (length l.commands - l.saved)) % 2 ^ 64) e;
      }

  some_taken : (g : ℕ) (o : Option ℕ) → takes_b (Some g) o ≡ true → takes_b None o ≡ true
  some_taken g None h = h
  some_taken g (Some y) h = refl

  fresh_marked : (c : List ℕ) → c ≡ 1 ∷ fresh_body → generation_of c ≡ Some (wire 1)
  fresh_marked c is = ap generation_of (is ∙ fresh_is) ∙ front_marked 1 0 [] 0 []

  fresh_good : (c : List ℕ) → c ≡ 1 ∷ fresh_body → is_bad c ≡ false
  fresh_good c is = ap is_bad (is ∙ fresh_is) ∙ front_good 1 0 [] 0 []

  -- the other slot is taken over the fresh one, as it was over none
  under_loads : (m : M) (k : ℕ) (xs c d : List ℕ) → IsNone xs → c ≡ 1 ∷ fresh_body → takes_b (Some (wire 1)) (generation_of d) ≡ true → Loads law m k xs d → Loads law m k c d
  under_loads m k xs c d none is over l =
      let was : taken xs d ≡ d = ap (λ g. if takes_b g (generation_of d) then d else xs) none.unmarked ∙ ap (λ b. if b then d else xs) (some_taken (wire 1) (generation_of d) over) in
      let now : taken c d ≡ d = ap (λ g. if takes_b g (generation_of d) then d else c) (fresh_marked c is) ∙ ap (λ b. if b then d else c) over in
      let P : List ℕ → Type 0 = λ s. IsList s (l.mark ++ map law.code l.commands) in
      record {
        commands = l.commands;
        mark = l.mark;
        saved = l.saved;
        marked = l.marked;
        enough = l.enough;
        known = l.known;
        log = record { good_a = fresh_good c is; good_b = l.log.good_b; list = subst P (was ∙ sym now) l.log.list };
        runs = l.runs;
        count = l.count ∙ ap (λ (s : List ℕ). (serial_of s + (length l.commands - l.saved)) % 2 ^ 64) (was ∙ sym now);
      }

  no_payloads : (mark : List (List ℕ)) (xs : List C) → mark ++ map law.code xs ≡ [] → xs ≡ []
  no_payloads [] [] e = refl
  no_payloads [] (x ∷ xs) e = absurd cc
  no_payloads (p ∷ ps) xs e = absurd cc

  -- two slots of which none is valid load to a fresh machine
  none_fresh : (m : M) (k : ℕ) (xs ys : List ℕ) → IsNone xs → IsNone ys → Loads law m k xs ys → (law.origin m ≡ m) × (k ≡ 0)
  none_fresh m k xs ys none other l =
      let same : taken xs ys ≡ xs = ap (λ g. if takes_b g (generation_of ys) then ys else xs) none.unmarked ∙ ap (λ g. if takes_b None g then ys else xs) other.unmarked in
      let P : List ℕ → Type 0 = λ s. IsList s (l.mark ++ map law.code l.commands) in
      let Q : Option ℕ → Type 0 = λ g. MatchOption g (l.mark ++ map law.code l.commands ≡ []) (λ _. Holds xs (l.mark ++ map law.code l.commands)) in
      let empty : l.commands ≡ [] = no_payloads l.mark l.commands (subst Q none.unmarked (subst P same l.log.list)) in
      let R : List C → Type 0 = λ cs. Runs law.step (law.origin m) cs m in
      let zero_is : serial_of (taken xs ys) ≡ 0 = ap serial_of same ∙ ap (λ g. serial_by g (serial_at xs)) none.unmarked in
      (sym (subst R empty l.runs), l.count ∙ ap (λ s. (s + (length l.commands - l.saved)) % 2 ^ 64) zero_is ∙ ap (λ (cs : List C). (0 + (length cs - l.saved)) % 2 ^ 64) empty ∙ nothing l.saved)
    where
      nothing : (s : ℕ) → (0 + (0 - s)) % 2 ^ 64 ≡ 0
      nothing s = let e : 0 - s ≡ 0 = omega arith in ap (λ x. (0 + x) % 2 ^ 64) e

  -- the fresh slot is taken over the other one
  over_loads : (m : M) (c d : List ℕ) → law.origin m ≡ m → c ≡ 1 ∷ fresh_body → is_bad d ≡ false → takes_b (Some (wire 1)) (generation_of d) ≡ false → Loads law m 0 c d
  over_loads m c d fresh is fine over =
      loads_slot law m 0 false [] [] 0 1 0 0 [] c d refl (omega arith) (All-nil law.is_cmd) (All-nil IsShort) (sym fresh) (is ∙ fresh_is) (λ h. absurd (omega (arith, h)))
      (record { good = fine; over = over }) (ap (λ n. (n + (0 - 0)) % 2 ^ 64) (sym wire_0))

  begun_keeps : (m n : M) (k l : ℕ) (xs ys c d : List ℕ) → IsNone xs → IsNone ys → LoadsEither law m k n l xs ys → IsBegun c → LoadsEither law m k n l xs d → LoadsEither law m k n l c d
  begun_keeps m n k l xs ys c d none other read (inl here) (inl h) = inl (none_loads m k xs c d none here h)
  begun_keeps m n k l xs ys c d none other read (inl here) (inr h) = inr (none_loads n l xs c d none here h)
  begun_keeps m n k l xs ys c d none other read (inr is) was = by_taken (takes_b (Some (wire 1)) (generation_of d)) refl was read
    where
      fine : LoadsEither law m k n l xs d → is_bad d ≡ false
      fine (inl h) = h.log.good_b
      fine (inr h) = h.log.good_b

      fresh_at : (s : M) (i : ℕ) → is_bad d ≡ false → takes_b (Some (wire 1)) (generation_of d) ≡ false → Loads law s i xs ys → Loads law s i c d
      fresh_at s i good over h =
          let f = none_fresh s i xs ys none other h in
          let P : ℕ → Type 0 = λ j. Loads law s j c d in
          subst P (sym f.1) (over_loads s c d f.0 is good over)

      by_taken : (b : Bool) → takes_b (Some (wire 1)) (generation_of d) ≡ b → LoadsEither law m k n l xs d → LoadsEither law m k n l xs ys → LoadsEither law m k n l c d
      by_taken true over (inl h) r = inl (under_loads m k xs c d none is over h)
      by_taken true over (inr h) r = inr (under_loads n l xs c d none is over h)
      by_taken false over w (inl h) = inl (fresh_at m k (fine w) over h)
      by_taken false over w (inr h) = inr (fresh_at n l (fine w) over h)

  -- at each moment of a load, two slots load to one of the states to which they did before
  pub load_crash : (m n : M) (k l : ℕ) (xs ys : List ℕ) (a mid a' b mid' b' : Option (List Crash)) → NowLeaves (LoadsEither law m k n l) a b
      → Now (λ s. Stands s × (s.seen ≡ xs)) a → Now (λ s. Stands s × (s.seen ≡ ys)) b → Stops unchanged a mid → Stops unchanged b mid' → Opening xs ys mid a' mid' b'
      → AnyMoment (LoadsEither law m k n l) a a' b b'
  load_crash m n k l xs ys None mid a' b mid' b' now sa sb settles settles' opens = λ x y mx my. absurd mx.1
  load_crash m n k l xs ys (Some ss) mid a' None mid' b' now sa sb settles settles' opens = λ x y mx my. absurd my.1
  load_crash m n k l xs ys (Some ss) mid a' (Some ts) mid' b' now sa sb settles settles' (inl (moves, same)) =
      let Q : List ℕ → List ℕ → Type 0 = LoadsEither law m k n l in
      let P : Option (List Crash) → Type 0 = λ o. Stops unchanged (Some ts) o in
      any_might Q (Some ss) a' (Some ts) b'
      (moves_crash Q (SameList xs) xs (Some ss) mid a' (Some ts) b' (λ c d s q. either_same law m n k l false xs c d s q) (once_of Q (Some ss) (Some ts) now) sa settles moves (subst P (sym same) settles'))
  load_crash m n k l xs ys (Some ss) mid a' (Some ts) mid' b' now sa sb settles settles' (inr (inl (same, moves))) = λ x y mx my.
      (let Q : List ℕ → List ℕ → Type 0 = λ d c. LoadsEither law m k n l c d in
      let P : Option (List Crash) → Type 0 = λ o. Stops unchanged (Some ss) o in
      any_might Q (Some ts) b' (Some ss) a'
      (moves_crash Q (SameList ys) ys (Some ts) mid' b' (Some ss) a' (λ c d s q. either_same law m n k l true ys c d s q) (once_of Q (Some ts) (Some ss) (λ d c md mc. now c d mc md)) sb settles' moves (subst P (sym same) settles))
      y x my mx)
  load_crash m n k l xs ys (Some ss) mid a' (Some ts) mid' b' now sa sb settles settles' (inr (inr (none, other, moves, same))) =
      let Q : List ℕ → List ℕ → Type 0 = LoadsEither law m k n l in
      let P : Option (List Crash) → Type 0 = λ o. Stops unchanged (Some ts) o in
      let A : List ℕ → Type 0 = λ c. IsImage (top ss) c in
      let B : List ℕ → Type 0 = λ c. IsImage (top ts) c in
      let read : Q xs ys = now xs ys (subst A sa.1 sa.0) (subst B sb.1 sb.0) in
      any_might Q (Some ss) a' (Some ts) b'
      (moves_crash Q IsBegun xs (Some ss) mid a' (Some ts) b' (λ c d s q. begun_keeps m n k l xs ys c d none other read s q) (once_of Q (Some ss) (Some ts) now) sa settles moves (subst P (sym same) settles'))

-- ---- from the current slot and the other one to the slots in their order

pub opening_a : {M D : Type 0} (f : D → Option (List Crash)) (xs ys : List ℕ) (current other : D) (j : State M D)
    → OrSame (SameList xs) (f current) (f j.current) × (j.other ≡ other) × (j.in_b ≡ false) × (j.shut ≡ false)
    → Opening xs ys (f current) (f (disk_a j)) (f other) (f (disk_b j))
opening_a f xs ys current other j h =
    let P : Bool → Type 0 = λ b. Opening xs ys (f current) (f (slot_a b j.current j.other)) (f other) (f (slot_b b j.current j.other)) in
    subst P (sym h.2) (inl (h.0, ap f h.1))

pub opening_b : {M D : Type 0} (f : D → Option (List Crash)) (xs ys : List ℕ) (current other : D) (j : State M D)
    → OrSame (SameList ys) (f current) (f j.current) × (j.other ≡ other) × (j.in_b ≡ true) × (j.shut ≡ false)
    → Opening xs ys (f other) (f (disk_a j)) (f current) (f (disk_b j))
opening_b f xs ys current other j h =
    let P : Bool → Type 0 = λ b. Opening xs ys (f other) (f (slot_a b j.current j.other)) (f current) (f (slot_b b j.current j.other)) in
    subst P (sym h.2) (inr (inl (ap f h.1, h.0)))

pub opening_begun : {M D : Type 0} (f : D → Option (List Crash)) (xs ys : List ℕ) (a b : D) (j : State M D) → IsNone xs → IsNone ys
    → OrSame IsBegun (f a) (f j.current) × (j.other ≡ b) × (j.in_b ≡ false) → Opening xs ys (f a) (f (disk_a j)) (f b) (f (disk_b j))
opening_begun f xs ys a b j none other h =
    let P : Bool → Type 0 = λ i. Opening xs ys (f a) (f (slot_a i j.current j.other)) (f b) (f (slot_b i j.current j.other)) in
    subst P (sym h.2) (inr (inr (none, other, h.0, ap f h.1)))

-- what was read before a settle
pub seen_before : (xs : List ℕ) (a mid : Option (List Crash)) → Now Stands a → mid ≡ pushed synced a → IfSome mid (λ ss. xs ≡ seen_now ss) → Now (λ s. Stands s × (s.seen ≡ xs)) a
seen_before xs None mid stands is read = tt
seen_before xs (Some ss) mid stands is read =
    let P : Option (List Crash) → Type 0 = λ o. IfSome o (λ ss. xs ≡ seen_now ss) in (stands, sym (subst P is read))

pub read_before : (xs : List ℕ) (a mid : Option (List Crash)) → Now Stands a → mid ≡ pushed synced a → IfSome mid (λ ss. xs ≡ seen_now ss) → Now (IsRead xs) a
read_before xs a mid stands is read =
    now_map (λ s. Stands s × (s.seen ≡ xs)) (IsRead xs) a (λ s h. (let P : List ℕ → Type 0 = λ l. IsImage s l in record { image = subst P h.1 h.0; seen = h.1 })) (seen_before xs a mid stands is read)

pub settled_still : (a mid : Option (List Crash)) → mid ≡ pushed synced a → Now IsStill mid
settled_still None mid is = let P : Option (List Crash) → Type 0 = λ o. Now IsStill o in subst P (sym is) tt
settled_still (Some ss) mid is = let P : Option (List Crash) → Type 0 = λ o. Now IsStill o in subst P (sym is) refl

pub none_seen : (xs : List ℕ) (o : Option (List Crash)) → IfSome o (λ ss. xs ≡ seen_now ss) → IsNone xs → Now (λ s. IsNone s.seen) o
none_seen xs None is none = tt
none_seen xs (Some ss) is none = let P : List ℕ → Type 0 = λ l. IsNone l in subst P is none
