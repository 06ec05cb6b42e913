-- What a read finds behind the armed call of an append, and of a commit.
use Rattle.std.proofs.Common.{◌≡◌, ◌<◌, ℕ, zero, suc, ◌+◌, ◌-◌, ◌%◌, ◌^◌, Bool, true, false, List, [], ◌∷◌, ◌++◌, take, map, sym, ap, ◌∙◌, subst, arith, append_assoc, length-append, Option, Some, None}
use Rattle.std.proofs.lemmas.List.{take_at}
use Rattle.std.specs.Bool.{MatchBool}
use Rattle.frs_base.specs.Machines.{Rules}
use Rattle.frs_disk.specs.Alarms.{Alarm, Armed, FailsAt, LeftAt, Passes, changes, less, syncs}
use Rattle.frs_disk.specs.Crashes.{Crash, patch, synced, wrote}
use Rattle.frs_disk.specs.Moments.{MayLeave, Now, pushed, seen_now, top}
use Rattle.frs_disk.specs.declared.image.Image.{Image}
use Rattle.frs_disk.specs.declared.image.Image.TheVariants.{With, Without}
use Rattle.frs_disk.proofs.Lasting.{now_at}
use Rattle.frs_disk.proofs.Ringing.{fails_on}
use Rattle.frs_disk.proofs.Words.{armed_is, exact_on}
use Rattle.frs_journal.specs.Gates.{Appending, Found, FoundAsArmed, IsAtRest, Shut, lands}
use Rattle.frs_journal.specs.Loads.{LoadsLanded}
use Rattle.frs_journal.specs.Rests.{Kept, Rests}
use Rattle.frs_journal.specs.Slots.{IsShort, Yields, framed, generation_of, slot_a, slot_b, slot_front, wire}
use Rattle.frs_journal.proofs.Commits.{bytes_more, front_is, known_more, loads_slot, marked_is, now_map, short_more, state_more}
use Rattle.frs_journal.proofs.Gated.{patch_end, patch_gate}

module _ (gate : ℕ) (body : List ℕ) (ss : List Crash) (rest : IsAtRest gate (top ss)) where
  front : take gate (seen_now ss) ≡ rest.front
  front = ap (λ (t : Crash). take gate t.seen) rest.state ∙ take_at rest.front (rest.closing ∷ []) gate rest.place

  -- the gate's place has what it had
  shut : (ys zs : List ℕ) → ys ≡ rest.front ++ rest.closing ∷ zs → Shut (take gate (seen_now ss)) ys
  shut ys zs is = record { gate = rest.closing; rest = zs; bytes = is ∙ ap (λ (l : List ℕ). l ++ rest.closing ∷ zs) (sym front); closed = rest.closed }

  -- the body was written
  bodied : patch (gate + 1) body (seen_now ss) ≡ rest.front ++ rest.closing ∷ body
  bodied =
      ap (λ (t : Crash). patch (gate + 1) body t.seen) rest.state
      ∙ patch_end (rest.front ++ rest.closing ∷ []) body (gate + 1) (omega (arith, rest.place, length-append rest.front (rest.closing ∷ [])))
      ∙ append_assoc rest.front (rest.closing ∷ []) body

  -- and then the gate
  opened_gate : patch gate (1 ∷ []) (patch (gate + 1) body (seen_now ss)) ≡ take gate (seen_now ss) ++ 1 ∷ body
  opened_gate = ap (patch gate (1 ∷ [])) bodied ∙ patch_gate rest.front body rest.closing gate rest.place ∙ ap (λ (l : List ℕ). l ++ 1 ∷ body) (sym front)

  seen_is : (top ss).seen ≡ rest.front ++ rest.closing ∷ []
  seen_is = ap (λ (t : Crash). t.seen) rest.state

  safe_is : (top ss).safe ≡ rest.front ++ rest.closing ∷ []
  safe_is = ap (λ (t : Crash). t.safe) rest.state

  found_in : (landed : Bool) (new after : Option (List Crash)) → new ≡ after
      → Now (λ s. MatchBool landed (s.seen ≡ take gate (seen_now ss) ++ 1 ∷ body) (Shut (take gate (seen_now ss)) s.seen)) after → Found gate body landed (Some ss) new
  found_in landed new after is h =
      let P : Option (List Crash) → Type 0 = λ o. Now (λ s. MatchBool landed (s.seen ≡ take gate (seen_now ss) ++ 1 ∷ body) (Shut (take gate (seen_now ss)) s.seen)) o in
      subst P (sym is) h

  first_told : (n : ℕ) (image : Option Image) (new : Option (List Crash)) → LeftAt n (changes (wrote (gate + 1) body) ∷ syncs ∷ []) (Some (record { before = n; image = image })) (Some ss) new
      → (n < 2) × Found gate body (lands n image) (Some ss) new
  first_told zero None new left = (omega arith, found_in false new _ left (shut _ [] seen_is))
  first_told zero (Some With) new left = (omega arith, found_in false new _ left (shut _ body bodied))
  first_told zero (Some Without) new left = (omega arith, found_in false new _ left (shut _ [] safe_is))
  first_told (suc zero) None new left = (omega arith, found_in false new _ left (shut _ body bodied))
  first_told (suc zero) (Some With) new left = (omega arith, found_in false new _ left (shut _ body bodied))
  first_told (suc zero) (Some Without) new left = (omega arith, found_in false new _ left (shut _ [] safe_is))
  first_told (suc (suc n)) image new left = absurd left

  second_told : (n before : ℕ) (image : Option Image) (new : Option (List Crash))
      → LeftAt n (changes (wrote gate (1 ∷ [])) ∷ syncs ∷ []) (Some (record { before = before; image = image })) (pushed synced (pushed (wrote (gate + 1) body) (Some ss))) new
      → (n < 2) × Found gate body (lands (2 + n) image) (Some ss) new
  second_told zero before None new left = (omega arith, found_in false new _ left (shut _ body bodied))
  second_told zero before (Some With) new left = (omega arith, found_in true new _ left opened_gate)
  second_told zero before (Some Without) new left = (omega arith, found_in false new _ left (shut _ body bodied))
  second_told (suc zero) before None new left = (omega arith, found_in true new _ left opened_gate)
  second_told (suc zero) before (Some With) new left = (omega arith, found_in true new _ left opened_gate)
  second_told (suc zero) before (Some Without) new left = (omega arith, found_in false new _ left (shut _ body bodied))
  second_told (suc (suc n)) before image new left = absurd left

first_found : (gate : ℕ) (body : List ℕ) (n : ℕ) (image : Option Image) (old new : Option (List Crash)) → Now (IsAtRest gate) old → Appending gate body old new
    → LeftAt n (changes (wrote (gate + 1) body) ∷ syncs ∷ []) (Some (record { before = n; image = image })) old new → (n < 2) × Found gate body (lands n image) old new
first_found gate body zero image None new rest inside left = (omega arith, inside)
first_found gate body (suc zero) image None new rest inside left = (omega arith, inside)
first_found gate body (suc (suc n)) image None new rest inside left = absurd left
first_found gate body n image (Some ss) new rest inside left = first_told gate body ss rest n image new left

second_found : (gate : ℕ) (body : List ℕ) (n before : ℕ) (image : Option Image) (old new : Option (List Crash)) → Now (IsAtRest gate) old → Appending gate body old new
    → LeftAt n (changes (wrote gate (1 ∷ [])) ∷ syncs ∷ []) (Some (record { before = before; image = image })) (pushed synced (pushed (wrote (gate + 1) body) old)) new
    → (n < 2) × Found gate body (lands (2 + n) image) old new
second_found gate body zero before image None new rest inside left = (omega arith, inside)
second_found gate body (suc zero) before image None new rest inside left = (omega arith, inside)
second_found gate body (suc (suc n)) before image None new rest inside left = absurd left
second_found gate body n before image (Some ss) new rest inside left = second_told gate body ss rest n before image new left

-- one of the first two calls failed
pub first_as_armed : (gate : ℕ) (body : List ℕ) (a b : Alarm) (old new : Option (List Crash)) → Now (IsAtRest gate) old → Appending gate body old new
    → (a.exact ≡ true → (n : ℕ) × FailsAt n a b × LeftAt n (changes (wrote (gate + 1) body) ∷ syncs ∷ []) a.armed old new) → FoundAsArmed gate body a old new
first_as_armed gate body a b old new rest inside word quiet exact =
    let w = word exact in
    let is = armed_is w.0 a b w.1 quiet in
    let P : Option Armed → Type 0 = λ o. LeftAt w.0 (changes (wrote (gate + 1) body) ∷ syncs ∷ []) o old new in
    let found = first_found gate body w.0 is.0 old new rest inside (subst P is.1 w.2) in
    (record { before = w.0; image = is.0 }, is.1, omega (arith, found.0), found.1)

-- one of the last two
pub second_as_armed : (gate : ℕ) (body : List ℕ) (a m b : Alarm) (old mid new : Option (List Crash)) → Now (IsAtRest gate) old → Appending gate body old new
    → Passes 2 a m → mid ≡ pushed synced (pushed (wrote (gate + 1) body) old)
    → (m.exact ≡ true → (n : ℕ) × FailsAt n m b × LeftAt n (changes (wrote gate (1 ∷ [])) ∷ syncs ∷ []) m.armed mid new) → FoundAsArmed gate body a old new
second_as_armed gate body a m b old mid new rest inside passes is_mid word quiet exact =
    let w = word (exact_on 2 a m passes exact) in
    let is = armed_is (2 + w.0) a b (fails_on 2 w.0 a m b passes w.1) quiet in
    let armed : m.armed ≡ less 2 (Some (record { before = 2 + w.0; image = is.0 })) = ap (λ (x : Alarm). x.armed) passes.now ∙ ap (less 2) is.1 in
    let P : Option Armed → Type 0 = λ o. LeftAt w.0 (changes (wrote gate (1 ∷ [])) ∷ syncs ∷ []) o mid new in
    let Q : Option (List Crash) → Type 0 = λ o. LeftAt w.0 (changes (wrote gate (1 ∷ [])) ∷ syncs ∷ []) (less 2 (Some (record { before = 2 + w.0; image = is.0 }))) o new in
    let found = second_found gate body w.0 (2 + w.0 - 2) is.0 old new rest inside (subst Q is_mid (subst P armed w.2)) in
    (record { before = 2 + w.0; image = is.0 }, is.1, omega (arith, found.0), found.1)

module _ {M C : Type 0} (law : Rules M C) where
  -- what a read finds loads so
  landed_loads : (m n : M) (x : C) (in_b : Bool) (end serial : ℕ) (body : List ℕ) (landed : Bool) (s : Crash) (other : Option (List Crash)) (c d : List ℕ)
      → Rests law m in_b end serial s other → law.is_cmd x → IsShort (law.code x) → law.step m x n → law.origin n ≡ law.origin m → body ≡ framed (law.code x) ++ 0 ∷ []
      → MatchBool landed (c ≡ take (end - 1) s.seen ++ 1 ∷ body) (Shut (take (end - 1) s.seen) c) → Yields in_b (generation_of s.seen) d
      → LoadsLanded law m serial x landed (slot_a in_b c d) (slot_b in_b c d)
  landed_loads m n x in_b end serial body true s other c d r known short steps keeps spelt is yields =
      let Y : Option ℕ → Type 0 = λ g. Yields in_b g d in
      let over : Yields in_b (Some (wire r.generation)) d = subst Y (marked_is law m in_b end serial s other r) yields in
      let whole : c ≡ slot_front r.generation r.first (r.mark ++ map law.code (r.commands ++ x ∷ [])) ++ 0 ∷ [] =
      is ∙ ap (λ (l : List ℕ). l ++ 1 ∷ body) (front_is law m in_b end serial s other r)
      ∙ ap (λ (b : List ℕ). slot_front r.generation r.first (r.mark ++ map law.code r.commands) ++ 1 ∷ b) spelt ∙ bytes_more law r.generation r.first r.mark r.commands x in (
        n,
        steps,
        loads_slot law n ((serial + 1) % 2 ^ 64) in_b (r.commands ++ x ∷ []) r.mark r.saved r.generation r.first 0 [] c d r.marked (omega (arith, r.enough, length-append r.commands (x ∷ [])))
            (known_more law r.commands x r.known known) (short_more law r.mark r.commands x r.short short) (state_more law m n r.commands x r.runs steps keeps) whole
            (λ h. absurd (omega (arith, h))) over (omega (arith, r.count, r.enough, length-append r.commands (x ∷ []))),
      )
  landed_loads m n x in_b end serial body false s other c d r known short steps keeps spelt shut yields =
      let Y : Option ℕ → Type 0 = λ g. Yields in_b g d in
      loads_slot law m serial in_b r.commands r.mark r.saved r.generation r.first shut.gate shut.rest c d r.marked r.enough r.known r.short r.runs
      (shut.bytes ∙ ap (λ (l : List ℕ). l ++ shut.gate ∷ shut.rest) (front_is law m in_b end serial s other r)) shut.closed
      (subst Y (marked_is law m in_b end serial s other r) yields) r.count

  -- the same of a disk that tells its states
  pub found_loads : (m n : M) (x : C) (in_b : Bool) (end serial : ℕ) (body : List ℕ) (landed : Bool) (old new other : Option (List Crash))
      → Kept law m in_b end serial old other → law.is_cmd x → IsShort (law.code x) → law.step m x n → law.origin n ≡ law.origin m → body ≡ framed (law.code x) ++ 0 ∷ []
      → Found (end - 1) body landed old new
      → Now (λ s. (others : List ℕ) → MayLeave other others → LoadsLanded law m serial x landed (slot_a in_b s.seen others) (slot_b in_b s.seen others)) new
  found_loads m n x in_b end serial body landed None new other kept known short steps keeps spelt found =
      let P : Option (List Crash) → Type 0 = λ o. Now (λ s. (others : List ℕ) → MayLeave other others → LoadsLanded law m serial x landed (slot_a in_b s.seen others) (slot_b in_b s.seen others)) o in
      subst P (sym found) tt
  found_loads m n x in_b end serial body landed (Some ss) new other r known short steps keeps spelt found =
      now_map (λ s. MatchBool landed (s.seen ≡ take (end - 1) (seen_now ss) ++ 1 ∷ body) (Shut (take (end - 1) (seen_now ss)) s.seen))
      (λ s. (others : List ℕ) → MayLeave other others → LoadsLanded law m serial x landed (slot_a in_b s.seen others) (slot_b in_b s.seen others)) new
      (λ s h. λ others leaves. landed_loads m n x in_b end serial body landed (top ss) other s.seen others r known short steps keeps spelt h
      (now_at (Yields in_b (generation_of (seen_now ss))) other others r.yields leaves)) found
