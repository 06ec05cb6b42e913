-- A command is put into the slot.
use Rattle.std.proofs.Common.{◌≡◌, ◌≤◌, ◌⊎◌, ℕ, ◌+◌, ◌-◌, ◌^◌, ◌%◌, Bool, true, false, List, [], ◌∷◌, ◌++◌, length, take, map, refl, sym, ap, ◌∙◌, subst, arith, inl, inr, append_assoc, Option, Some, None, length-append}
use Rattle.std.proofs.lemmas.List.{map-append, take_at}
use Rattle.std.proofs.lemmas.List.Elements.{All-push}
use Rattle.std.specs.List.{All}
use Rattle.std.specs.Prelude.{IfSome}
use Rattle.frs_base.specs.Machines.{Rules, Runs}
use Rattle.frs_disk.specs.Crashes.{Crash, still, IsImage, Leaves}
use Rattle.frs_disk.specs.Moments.{top, seen_now, Now, Goes, Since, MayLeave, MightLeave}
use Rattle.frs_disk.proofs.Lasting.{since_at}
use Rattle.frs_disk.proofs.Moments.{goes_map, goes_none, only_still}
use Rattle.frs_journal.specs.Gates.{Shut, Shutting, Gated, Appending, Appended}
use Rattle.frs_journal.specs.Loads.{AnyMoment, IsMark, Loads, LoadsStep, NowLeaves}
use Rattle.frs_journal.specs.Rests.{Always, AtOnce, Kept, Pairs, Rests}
use Rattle.frs_journal.specs.Slots.{framed, slot_front, generation_of, serial_of, slot_a, slot_b, taken, Yields, IsShort, wire}
use Rattle.frs_journal.proofs.Fronts.{front_more, front_marked, front_serial, log_of, is_one, serial_taken}

pub now_map : (P Q : Crash → Type 0) (o : Option (List Crash)) → ((s : Crash) → P s → Q s) → Now P o → Now Q o
now_map P Q None f h = tt
now_map P Q (Some ss) f h = f (top ss) h

-- nothing happens
pub since_same : (P : Crash → Type 0) (a b : Option (List Crash)) → Now P a → b ≡ a → Since P a b
since_same P a b now same = (now, goes_none P a b same)

-- no call was made
pub any_same : (Q : List ℕ → List ℕ → Type 0) (a a' b b' : Option (List Crash)) → AtOnce Q a b → a' ≡ a → b' ≡ b → Always Q a a' b b'
any_same Q a a' b b' now same_a same_b =
    let R : Crash → Crash → Type 0 = λ s t. (c d : List ℕ) → IsImage s c → IsImage t d → Q c d in
    since_same (λ s. Since (R s) b b') a a' (now_map (λ s. Now (R s) b) (λ s. Since (R s) b b') a (λ s h. since_same (R s) b b' h same_b) now) same_a

pub now_leaves_map : (P Q : List ℕ → List ℕ → Type 0) (a b : Option (List Crash)) → ((c d : List ℕ) → P c d → Q c d) → AtOnce P a b → AtOnce Q a b
now_leaves_map P Q a b f now =
    now_map (λ s. Now (λ t. (c d : List ℕ) → IsImage s c → IsImage t d → P c d) b) (λ s. Now (λ t. (c d : List ℕ) → IsImage s c → IsImage t d → Q c d) b) a
    (λ s h. now_map (λ t. (c d : List ℕ) → IsImage s c → IsImage t d → P c d) (λ t. (c d : List ℕ) → IsImage s c → IsImage t d → Q c d) b (λ t k. λ c d ic id. f c d (k c d ic id)) h) now

pub any_might : (Q : List ℕ → List ℕ → Type 0) (a a' b b' : Option (List Crash)) → Always Q a a' b b' → (c d : List ℕ) → MightLeave a a' c → MightLeave b b' d → Q c d
any_might Q a a' b b' always c d (s, ms, ic) (t, mt, id) =
    since_at (Pairs Q s) b b' t (since_at (λ s. Since (Pairs Q s) b b') a a' s always ms) mt c d ic id

pub now_may : (Q : List ℕ → List ℕ → Type 0) (a b : Option (List Crash)) → AtOnce Q a b → (c d : List ℕ) → MayLeave a c → MayLeave b d → Q c d
now_may Q None b once c d mc md = absurd mc
now_may Q (Some ss) None once c d mc md = absurd md
now_may Q (Some ss) (Some ts) once c d mc md = once c d mc md

-- from the current slot and the other one to the slots in their order
pub always_any : {D : Type 0} (f : D → Option (List Crash)) (in_b : Bool) (Q : List ℕ → List ℕ → Type 0) (c c' d d' : D)
    → Always (λ x y. Q (slot_a in_b x y) (slot_b in_b x y)) (f c) (f c') (f d) (f d')
    → AnyMoment Q (f (slot_a in_b c d)) (f (slot_a in_b c' d')) (f (slot_b in_b c d)) (f (slot_b in_b c' d'))
always_any f true Q c c' d d' always = λ a b ma mb. any_might (λ x y. Q y x) (f c) (f c') (f d) (f d') always b a mb ma
always_any f false Q c c' d d' always = λ a b ma mb. any_might Q (f c) (f c') (f d) (f d') always a b ma mb

pub once_now : {D : Type 0} (f : D → Option (List Crash)) (in_b : Bool) (Q : List ℕ → List ℕ → Type 0) (c d : D)
    → AtOnce (λ x y. Q (slot_a in_b x y) (slot_b in_b x y)) (f c) (f d) → NowLeaves Q (f (slot_a in_b c d)) (f (slot_b in_b c d))
once_now f true Q c d once = λ a b ma mb. now_may (λ x y. Q y x) (f c) (f d) once b a mb ma
once_now f false Q c d once = λ a b ma mb. now_may Q (f c) (f d) once a b ma mb

module _ {M C : Type 0} (law : Rules M C) where
  runs_more : (m n o : M) (xs : List C) (x : C) → Runs law.step m xs n → law.step n x o → Runs law.step m (xs ++ x ∷ []) o
  runs_more m n o [] x is steps = let P : M → Type 0 = λ k. law.step k x o in (o, subst P is steps, refl)
  runs_more m n o (y ∷ ys) x (mid, first, rest) steps = (mid, first, runs_more mid n o ys x rest steps)

  pub loads_slot : (m : M) (k : ℕ) (in_b : Bool) (commands : List C) (mark : List (List ℕ)) (saved generation first gate : ℕ) (rest c d : List ℕ)
      → IsMark mark saved → saved ≤ length commands → All law.is_cmd commands → All IsShort (mark ++ map law.code commands) → Runs law.step (law.origin m) commands m
      → c ≡ slot_front generation first (mark ++ map law.code commands) ++ gate ∷ rest → (gate ≡ 1 → ⊥) → Yields in_b (Some (wire generation)) d
      → k ≡ (wire first + (length commands - saved)) % 2 ^ 64 → Loads law m k (slot_a in_b c d) (slot_b in_b c d)
  loads_slot m k in_b commands mark saved generation first gate rest c d marked enough known short runs bytes closed yields count =
      let at : generation_of c ≡ Some (wire generation) = ap generation_of bytes ∙ front_marked generation first (mark ++ map law.code commands) gate rest in
      let serial : serial_of (taken (slot_a in_b c d) (slot_b in_b c d)) ≡ wire first =
      serial_taken in_b c d (wire generation) at yields ∙ ap serial_of bytes ∙ front_serial generation first (mark ++ map law.code commands) gate rest in
      record {
        commands = commands;
        mark = mark;
        saved = saved;
        marked = marked;
        enough = enough;
        known = known;
        log = log_of in_b generation first (mark ++ map law.code commands) gate rest c d bytes closed short yields;
        runs = runs;
        count = count ∙ ap (λ s. (s + (length commands - saved)) % 2 ^ 64) (sym serial);
      }

  -- one command more
  pub known_more : (xs : List C) (x : C) → All law.is_cmd xs → law.is_cmd x → All law.is_cmd (xs ++ x ∷ [])
  known_more xs x h k = All-push law.is_cmd xs x h k

  pub payloads_more : (mark : List (List ℕ)) (xs : List C) (x : C) → mark ++ map law.code (xs ++ x ∷ []) ≡ (mark ++ map law.code xs) ++ law.code x ∷ []
  payloads_more mark xs x =
      ap (λ (ps : List (List ℕ)). mark ++ ps) (map-append law.code xs (x ∷ [])) ∙ sym (append_assoc mark (map law.code xs) (law.code x ∷ []))

  pub short_more : (mark : List (List ℕ)) (xs : List C) (x : C) → All IsShort (mark ++ map law.code xs) → IsShort (law.code x) → All IsShort (mark ++ map law.code (xs ++ x ∷ []))
  short_more mark xs x h k =
      let P : List (List ℕ) → Type 0 = λ ps. All IsShort ps in
      subst P (sym (payloads_more mark xs x)) (All-push IsShort (mark ++ map law.code xs) (law.code x) h k)

  pub state_more : (m n : M) (xs : List C) (x : C) → Runs law.step (law.origin m) xs m → law.step m x n → law.origin n ≡ law.origin m → Runs law.step (law.origin n) (xs ++ x ∷ []) n
  state_more m n xs x is steps keeps = let P : M → Type 0 = λ o. Runs law.step o (xs ++ x ∷ []) n in subst P (sym keeps) (runs_more (law.origin m) m n xs x is steps)

  pub bytes_more : (generation first : ℕ) (mark : List (List ℕ)) (xs : List C) (x : C)
      → slot_front generation first (mark ++ map law.code xs) ++ 1 ∷ (framed (law.code x) ++ 0 ∷ []) ≡ slot_front generation first (mark ++ map law.code (xs ++ x ∷ [])) ++ 0 ∷ []
  bytes_more generation first mark xs x =
      sym (append_assoc (slot_front generation first (mark ++ map law.code xs)) (1 ∷ framed (law.code x)) (0 ∷ []))
      ∙ ap (λ (l : List ℕ). l ++ 0 ∷ []) (sym (front_more generation first (mark ++ map law.code xs) (law.code x)))
      ∙ ap (λ (ps : List (List ℕ)). slot_front generation first ps ++ 0 ∷ []) (sym (payloads_more mark xs x))

  pub front_is : (m : M) (in_b : Bool) (end serial : ℕ) (s : Crash) (other : Option (List Crash)) → (r : Rests law m in_b end serial s other)
      → take (end - 1) s.seen ≡ slot_front r.generation r.first (r.mark ++ map law.code r.commands)
  front_is m in_b end serial s other r =
      ap (λ (t : Crash). take (end - 1) t.seen) r.bytes ∙ take_at (slot_front r.generation r.first (r.mark ++ map law.code r.commands)) (r.closing ∷ []) (end - 1) (omega (arith, r.size))

  pub marked_is : (m : M) (in_b : Bool) (end serial : ℕ) (s : Crash) (other : Option (List Crash)) → (r : Rests law m in_b end serial s other)
      → generation_of s.seen ≡ Some (wire r.generation)
  marked_is m in_b end serial s other r = ap (λ (t : Crash). generation_of t.seen) r.bytes ∙ front_marked r.generation r.first (r.mark ++ map law.code r.commands) r.closing []

  pub loads_gated : (m n : M) (x : C) (in_b : Bool) (end serial : ℕ) (s : Crash) (other : Option (List Crash)) (c d : List ℕ)
      → Rests law m in_b end serial s other → law.is_cmd x → IsShort (law.code x) → law.step m x n → law.origin n ≡ law.origin m
      → Gated (take (end - 1) s.seen) (framed (law.code x) ++ 0 ∷ []) c → Yields in_b (generation_of s.seen) d
      → LoadsStep law m serial x (slot_a in_b c d) (slot_b in_b c d)
  loads_gated m n x in_b end serial s other c d r known short steps keeps gated yields =
      let front : List ℕ = slot_front r.generation r.first (r.mark ++ map law.code r.commands) in
      let P : Option ℕ → Type 0 = λ g. Yields in_b g d in
      let over : Yields in_b (Some (wire r.generation)) d = subst P (marked_is m in_b end serial s other r) yields in
      let is : c ≡ front ++ gated.gate ∷ gated.rest = gated.bytes ∙ ap (λ (l : List ℕ). l ++ gated.gate ∷ gated.rest) (front_is m in_b end serial s other r) in
      by_gate (is_one gated.gate) over is
    where
      by_gate : (gated.gate ≡ 1) ⊎ (gated.gate ≡ 1 → ⊥) → Yields in_b (Some (wire r.generation)) d
          → c ≡ slot_front r.generation r.first (r.mark ++ map law.code r.commands) ++ gated.gate ∷ gated.rest
          → LoadsStep law m serial x (slot_a in_b c d) (slot_b in_b c d)
      by_gate (inr closed) over is =
          inl (loads_slot m serial in_b r.commands r.mark r.saved r.generation r.first gated.gate gated.rest c d r.marked r.enough r.known r.short r.runs is closed over r.count)
      by_gate (inl opens) over is =
          let front : List ℕ = slot_front r.generation r.first (r.mark ++ map law.code r.commands) in
          let whole : c ≡ slot_front r.generation r.first (r.mark ++ map law.code (r.commands ++ x ∷ [])) ++ 0 ∷ [] =
          is ∙ ap (λ (l : ℕ). front ++ l ∷ gated.rest) opens ∙ ap (λ (l : List ℕ). front ++ 1 ∷ l) (gated.whole opens) ∙ bytes_more r.generation r.first r.mark r.commands x in
          inr (
            n,
            steps,
            loads_slot n ((serial + 1) % 2 ^ 64) in_b (r.commands ++ x ∷ []) r.mark r.saved r.generation r.first 0 [] c d r.marked (omega (arith, r.enough, length-append r.commands (x ∷ []))) (known_more r.commands x r.known known) (short_more r.mark r.commands x r.short short)
                (state_more m n r.commands x r.runs steps keeps) whole (λ h. absurd (omega (arith, h))) over (omega (arith, r.count, r.enough, length-append r.commands (x ∷ []))),
          )

  pub commit_crash : (m n : M) (x : C) (in_b : Bool) (end serial : ℕ) (body : List ℕ) (current new other after : Option (List Crash))
      → Kept law m in_b end serial current other → law.is_cmd x → IsShort (law.code x) → law.step m x n → law.origin n ≡ law.origin m
      → body ≡ framed (law.code x) ++ 0 ∷ [] → Appending (end - 1) body current new → after ≡ other
      → Always (λ c d. LoadsStep law m serial x (slot_a in_b c d) (slot_b in_b c d)) current new other after
  commit_crash m n x in_b end serial body None new other after kept known short steps keeps spelt going same = (tt, going)
  commit_crash m n x in_b end serial body (Some ss) new other after r known short steps keeps spelt going same =
      (at (top ss) first, goes_map (Leaves G) P (Some ss) new at going')
    where
      G : List ℕ → Type 0
      G = Gated (take (end - 1) (seen_now ss)) (framed (law.code x) ++ 0 ∷ [])

      Q : List ℕ → List ℕ → Type 0
      Q c d = LoadsStep law m serial x (slot_a in_b c d) (slot_b in_b c d)

      P : Crash → Type 0
      P s = Since (λ t. (c d : List ℕ) → IsImage s c → IsImage t d → Q c d) other after

      going' : Goes (Leaves G) (Some ss) new
      going' = let R : List ℕ → Type 0 = λ b. Goes (Leaves (Gated (take (end - 1) (seen_now ss)) b)) (Some ss) new in subst R spelt going

      at : (s : Crash) → Leaves G s → P s
      at s leaves =
          since_same (λ t. (c d : List ℕ) → IsImage s c → IsImage t d → Q c d) other after
          (now_map (Leaves (Yields in_b (generation_of (seen_now ss)))) (λ t. (c d : List ℕ) → IsImage s c → IsImage t d → Q c d) other
          (λ t yields. λ c d ic id. loads_gated m n x in_b end serial (top ss) other c d r known short steps keeps (leaves c ic) (yields d id)) r.yields) same

      first : Leaves G (top ss)
      first c image =
          let P : Crash → Type 0 = λ s. IsImage s c in
          let is : c ≡ slot_front r.generation r.first (r.mark ++ map law.code r.commands) ++ r.closing ∷ [] = only_still (slot_front r.generation r.first (r.mark ++ map law.code r.commands) ++ r.closing ∷ []) c (subst P r.bytes image) in
          record { gate = r.closing; rest = []; bytes = is ∙ ap (λ (l : List ℕ). l ++ r.closing ∷ []) (sym (front_is m in_b end serial (top ss) other r)); whole = λ h. absurd (r.closed h) }

  pub commit_early : (m : M) (in_b : Bool) (end serial : ℕ) (current new other after : Option (List Crash))
      → Kept law m in_b end serial current other → Shutting (end - 1) current new → after ≡ other → Always (λ c d. Loads law m serial (slot_a in_b c d) (slot_b in_b c d)) current new other after
  commit_early m in_b end serial None new other after kept going same = (tt, going)
  commit_early m in_b end serial (Some ss) new other after r going same =
      (at (top ss) first, goes_map (Leaves G) P (Some ss) new at going)
    where
      G : List ℕ → Type 0
      G = Shut (take (end - 1) (seen_now ss))

      P : Crash → Type 0
      P s = Since (λ t. (c d : List ℕ) → IsImage s c → IsImage t d → Loads law m serial (slot_a in_b c d) (slot_b in_b c d)) other after

      at : (s : Crash) → Leaves G s → P s
      at s leaves =
          since_same (λ t. (c d : List ℕ) → IsImage s c → IsImage t d → Loads law m serial (slot_a in_b c d) (slot_b in_b c d)) other after
          (now_map (Leaves (Yields in_b (generation_of (seen_now ss)))) (λ t. (c d : List ℕ) → IsImage s c → IsImage t d → Loads law m serial (slot_a in_b c d) (slot_b in_b c d)) other
          (λ t yields. λ c d ic id.
          (let shut = leaves c ic in
          let Y : Option ℕ → Type 0 = λ g. Yields in_b g d in
          loads_slot m serial in_b r.commands r.mark r.saved r.generation r.first shut.gate shut.rest c d r.marked r.enough r.known r.short r.runs
          (shut.bytes ∙ ap (λ (l : List ℕ). l ++ shut.gate ∷ shut.rest) (front_is m in_b end serial (top ss) other r)) shut.closed
          (subst Y (marked_is m in_b end serial (top ss) other r) (yields d id)) r.count)) r.yields) same

      first : Leaves G (top ss)
      first c image =
          let P : Crash → Type 0 = λ s. IsImage s c in
          let is : c ≡ slot_front r.generation r.first (r.mark ++ map law.code r.commands) ++ r.closing ∷ [] = only_still (slot_front r.generation r.first (r.mark ++ map law.code r.commands) ++ r.closing ∷ []) c (subst P r.bytes image) in
          record { gate = r.closing; rest = []; bytes = is ∙ ap (λ (l : List ℕ). l ++ r.closing ∷ []) (sym (front_is m in_b end serial (top ss) other r)); closed = r.closed }

  pub kept_more : (m n : M) (x : C) (in_b : Bool) (end serial : ℕ) (body : List ℕ) (current new other : Option (List Crash))
      → Kept law m in_b end serial current other → law.is_cmd x → IsShort (law.code x) → law.step m x n → law.origin n ≡ law.origin m
      → body ≡ framed (law.code x) ++ 0 ∷ [] → Appended (end - 1) body current new
      → Kept law n in_b (end + length body) ((serial + 1) % 2 ^ 64) new other
  kept_more m n x in_b end serial body None new other kept known short steps keeps spelt done =
      let P : Option (List Crash) → Type 0 = λ o. Kept law n in_b (end + length body) ((serial + 1) % 2 ^ 64) o other in
      subst P (sym done) tt
  kept_more m n x in_b end serial body (Some ss) new other r known short steps keeps spelt done =
      let P : Option (List Crash) → Type 0 = λ o. Kept law n in_b (end + length body) ((serial + 1) % 2 ^ 64) o other in
      let front : List ℕ = slot_front r.generation r.first (r.mark ++ map law.code r.commands) in
      let more : List C = r.commands ++ x ∷ [] in
      let bytes : take (end - 1) (seen_now ss) ++ 1 ∷ body ≡ slot_front r.generation r.first (r.mark ++ map law.code more) ++ 0 ∷ [] =
      ap (λ (l : List ℕ). l ++ 1 ∷ body) (front_is m in_b end serial (top ss) other r) ∙ ap (λ (b : List ℕ). front ++ 1 ∷ b) spelt ∙ bytes_more r.generation r.first r.mark r.commands x in
      let marked : generation_of (take (end - 1) (seen_now ss) ++ 1 ∷ body) ≡ generation_of (seen_now ss) =
      ap generation_of bytes ∙ front_marked r.generation r.first (r.mark ++ map law.code more) 0 [] ∙ sym (marked_is m in_b end serial (top ss) other r) in
      let Y : Option ℕ → Type 0 = λ g. Now (Leaves (Yields in_b g)) other in
      subst P (sym done.1) (record {
        commands = more;
        mark = r.mark;
        saved = r.saved;
        marked = r.marked;
        enough = omega (arith, r.enough, length-append r.commands (x ∷ []));
        generation = r.generation;
        first = r.first;
        closing = 0;
        closed = λ h. absurd (omega (arith, h));
        known = known_more r.commands x r.known known;
        short = short_more r.mark r.commands x r.short short;
        bytes = ap still bytes;
        size = omega (arith, ap length bytes, length-append (slot_front r.generation r.first (r.mark ++ map law.code more)) (0 ∷ []), length-append (take (end - 1) (seen_now ss)) (1 ∷ body), ap length (front_is m in_b end serial (top ss) other r), r.size);
        count = omega (arith, r.count, r.enough, length-append r.commands (x ∷ []));
        runs = state_more m n r.commands x r.runs steps keeps;
        yields = subst Y (sym marked) r.yields;
      })

  -- a crash now leaves the state
  pub kept_leaves : (m : M) (in_b : Bool) (end serial : ℕ) (current other : Option (List Crash)) → Kept law m in_b end serial current other
      → AtOnce (λ c d. Loads law m serial (slot_a in_b c d) (slot_b in_b c d)) current other
  kept_leaves m in_b end serial None other kept = tt
  kept_leaves m in_b end serial (Some ss) other r =
      now_map (Leaves (Yields in_b (generation_of (seen_now ss)))) (λ t. (c d : List ℕ) → IsImage (top ss) c → IsImage t d → Loads law m serial (slot_a in_b c d) (slot_b in_b c d)) other
      (λ t yields. λ c d ic id.
      (let P : Crash → Type 0 = λ s. IsImage s c in
      let is : c ≡ slot_front r.generation r.first (r.mark ++ map law.code r.commands) ++ r.closing ∷ [] = only_still (slot_front r.generation r.first (r.mark ++ map law.code r.commands) ++ r.closing ∷ []) c (subst P r.bytes ic) in
      let Y : Option ℕ → Type 0 = λ g. Yields in_b g d in
      loads_slot m serial in_b r.commands r.mark r.saved r.generation r.first r.closing [] c d r.marked r.enough r.known r.short r.runs is r.closed
      (subst Y (marked_is m in_b end serial (top ss) other r) (yields d id)) r.count)) r.yields

  -- the current slot's length is what a read gives
  pub kept_length : (m : M) (in_b : Bool) (end serial : ℕ) (current other : Option (List Crash)) → Kept law m in_b end serial current other → IfSome current (λ ss. end ≡ length (seen_now ss))
  kept_length m in_b end serial None other kept = tt
  kept_length m in_b end serial (Some ss) other r =
      let is : seen_now ss ≡ slot_front r.generation r.first (r.mark ++ map law.code r.commands) ++ r.closing ∷ [] = ap (λ (s : Crash). s.seen) r.bytes in
      omega (arith, ap length is, length-append (slot_front r.generation r.first (r.mark ++ map law.code r.commands)) (r.closing ∷ []), r.size)
