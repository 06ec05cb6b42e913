-- A slot is opened.
use Rattle.std.proofs.Common.{◌≡◌, ◌≤◌, ◌<◌, ℕ, ◌+◌, ◌*◌, ◌-◌, ◌%◌, ◌^◌, List, [], ◌∷◌, ◌++◌, length, take, drop, map, append_assoc, refl, sym, ap, ◌∙◌, subst, arith, get_or, length-append, Option, Some, None}
use Rattle.std.proofs.lemmas.List.{take-append-drop, take-take, take_at, get_or-take, get_or-drop, length-take-le}
use Rattle.std.specs.Prelude.{IfSome}
use Rattle.frs_base.specs.Machines.{Rules, Runs}
use Rattle.frs_disk.specs.Crashes.{Crash, Leaves, still}
use Rattle.frs_disk.specs.Moments.{Now, seen_now}
use Rattle.frs_disk.proofs.Moments.{goes_map}
use Rattle.frs_journal.specs.Gates.{HasCut, OrSame, Trimmed, Trimming}
use Rattle.frs_journal.specs.Opens.{Opens, SameList}
use Rattle.frs_journal.specs.Reading.{IsWhole, ReadTo, generation_at}
use Rattle.frs_journal.specs.Slots.{head, opened, serial_at, slot_front}
use Rattle.frs_journal.proofs.Gated.{one_more}

byte_at : (n k : ℕ) (c : List ℕ) → k < 8 → get_or (take 8 (drop n c)) k 0 ≡ get_or c (n + k) 0
byte_at n k c lt = get_or-take 8 (drop n c) k 0 lt ∙ get_or-drop n c k 0

pub serial_bytes : (c : List ℕ) (n : ℕ)
    → n ≡ get_or c 17 0 + get_or c 18 0 * 256 + get_or c 19 0 * 65536 + get_or c 20 0 * 16777216 + get_or c 21 0 * 4294967296 + get_or c 22 0 * 1099511627776 + get_or c 23 0 * 281474976710656 + get_or c 24 0 * 72057594037927936
    → n ≡ serial_at c
unfolding serial_at
serial_bytes c n is = omega (arith, is, byte_at 17 0 c (omega arith), byte_at 17 1 c (omega arith), byte_at 17 2 c (omega arith), byte_at 17 3 c (omega arith), byte_at 17 4 c (omega arith), byte_at 17 5 c (omega arith), byte_at 17 6 c (omega arith), byte_at 17 7 c (omega arith))

-- what a cut leaves
trimmed_same : (end gate : ℕ) (front rest xs c : List ℕ) → xs ≡ front ++ gate ∷ rest → length front + 1 ≡ end → Trimmed end xs c → c ≡ front ++ gate ∷ drop end c
trimmed_same end gate front rest xs c is size cut =
    let n : length (front ++ gate ∷ []) ≡ end = omega (arith, size, length-append front (gate ∷ [])) in
    let e : take end xs ≡ front ++ gate ∷ [] =
    ap (λ (l : List ℕ). take end l) (is ∙ sym (append_assoc front (gate ∷ []) rest)) ∙ take_at (front ++ gate ∷ []) rest end n in
    let f : take end c ≡ front ++ gate ∷ [] = ap (λ (l : List ℕ). take end l) (sym cut.front) ∙ take-take end (length c) xs cut.no_shorter ∙ e in
    sym (take-append-drop end c) ∙ ap (λ (l : List ℕ). l ++ drop end c) f ∙ append_assoc front (gate ∷ []) (drop end c)

cut_is : (end gate : ℕ) (front rest xs : List ℕ) → xs ≡ front ++ gate ∷ rest → length front + 1 ≡ end → take end xs ≡ front ++ gate ∷ []
cut_is end gate front rest xs is size =
    ap (λ (l : List ℕ). take end l) (is ∙ sym (append_assoc front (gate ∷ []) rest)) ∙ take_at (front ++ gate ∷ []) rest end (omega (arith, size, length-append front (gate ∷ [])))

head_size : (generation serial : ℕ) → length (head generation serial) ≡ 25
unfolding head
head_size generation serial = refl

module _ {M C : Type 0} (law : Rules M C) where
  pub read_whole : (bytes : List ℕ) (at saved : ℕ) (xs : List C) → (r : ReadTo law bytes at saved xs)
      → bytes ≡ slot_front (generation_at bytes) (serial_at bytes) (r.mark ++ map law.code xs) ++ get_or bytes at 0 ∷ drop (at + 1) bytes
  read_whole bytes at saved xs read = one_more at bytes read.inside ∙ ap (λ (l : List ℕ). l ++ get_or bytes at 0 ∷ drop (at + 1) bytes) read.front

  front_size : (bytes : List ℕ) (at saved : ℕ) (xs : List C) → (r : ReadTo law bytes at saved xs) → length (slot_front (generation_at bytes) (serial_at bytes) (r.mark ++ map law.code xs)) ≡ at
  front_size bytes at saved xs read = ap length (sym read.front) ∙ length-take-le at bytes (omega (arith, read.inside))

  pub open_inside : (bytes : List ℕ) (end saved : ℕ) (xs : List C) (old mid new : Option (List Crash)) → IsWhole law bytes end saved xs
      → IfSome old (λ ss. bytes ≡ seen_now ss) → mid ≡ old → Trimming end mid new → OrSame (SameList bytes) old new
  open_inside bytes end saved xs old mid new w bytes_are same trimming = by_told old bytes_are (let P : Option (List Crash) → Type 0 = λ o. Trimming end o new in subst P same trimming)
    where
      one_same : (c : List ℕ) → Trimmed end bytes c → SameList bytes c
      one_same c cut = record {
        generation = generation_at bytes;
        first = serial_at bytes;
        payloads = w.before.mark ++ map law.code xs;
        gate = get_or bytes (end - 1) 0;
        rest = drop (end - 1 + 1) bytes;
        left = drop end c;
        closed = w.closed;
        short = w.before.short;
        whole = read_whole bytes (end - 1) saved xs w.before;
        same = trimmed_same end (get_or bytes (end - 1) 0) (slot_front (generation_at bytes) (serial_at bytes) (w.before.mark ++ map law.code xs)) (drop (end - 1 + 1) bytes) bytes c
            (read_whole bytes (end - 1) saved xs w.before) (omega (arith, front_size bytes (end - 1) saved xs w.before, w.some)) cut;
      }

      by_told : (o : Option (List Crash)) → IfSome o (λ ss. bytes ≡ seen_now ss) → Trimming end o new → OrSame (SameList bytes) o new
      by_told None is going = going
      by_told (Some ss) is going =
          goes_map (Leaves (Trimmed end (seen_now ss))) (Leaves (SameList bytes)) (Some ss) new
          (λ s leaves. λ c image. (let Q : List ℕ → Type 0 = λ l. Trimmed end l c in one_same c (subst Q (sym is) (leaves c image)))) going

  pub open_done : (fresh m : M) (bytes : List ℕ) (end saved serial : ℕ) (xs : List C) (old mid new : Option (List Crash)) → IsWhole law bytes end saved xs
      → IfSome old (λ ss. bytes ≡ seen_now ss) → mid ≡ old → HasCut end mid new → Runs law.step fresh xs m → serial ≡ (serial_at bytes + (length xs - saved)) % 2 ^ 64
      → Opens law fresh bytes m end serial new
  open_done fresh m bytes end saved serial xs old mid new w bytes_are same cut state count = record {
    commands = xs;
    mark = w.before.mark;
    saved = saved;
    gate = get_or bytes (end - 1) 0;
    rest = drop (end - 1 + 1) bytes;
    marked = w.before.marked;
    enough = w.enough;
    closed = w.closed;
    known = w.before.known;
    short = w.before.short;
    whole = read_whole bytes (end - 1) saved xs w.before;
    size = omega (arith, front_size bytes (end - 1) saved xs w.before, w.some);
    runs = state;
    count = count;
    disk = by_told old bytes_are (let P : Option (List Crash) → Type 0 = λ o. HasCut end o new in subst P same cut);
  }
    where
      D : Option (List Crash) → Type 0
      D o = Now (λ s. s ≡ still (slot_front (generation_at bytes) (serial_at bytes) (w.before.mark ++ map law.code xs) ++ get_or bytes (end - 1) 0 ∷ [])) o

      by_told : (o : Option (List Crash)) → IfSome o (λ ss. bytes ≡ seen_now ss) → HasCut end o new → D new
      by_told None is done = subst D (sym done) tt
      by_told (Some ss) is done =
          subst D (sym done.1) (ap (λ (l : List ℕ). still (take end l)) (sym is) ∙ ap still (cut_is end (get_or bytes (end - 1) 0) (slot_front (generation_at bytes) (serial_at bytes) (w.before.mark ++ map law.code xs)) (drop (end - 1 + 1) bytes) bytes
          (read_whole bytes (end - 1) saved xs w.before) (omega (arith, front_size bytes (end - 1) saved xs w.before, w.some))))

  pub opened_size : (bytes : List ℕ) (end saved : ℕ) (xs : List C) → IsWhole law bytes end saved xs → (26 ≤ end) × (end ≤ length bytes)
  opened_size bytes end saved xs w = (
    omega (arith, front_size bytes (end - 1) saved xs w.before, w.some, length-append (head (generation_at bytes) (serial_at bytes)) (opened (w.before.mark ++ map law.code xs)), head_size (generation_at bytes) (serial_at bytes)),
    omega (arith, w.before.inside, w.some),
  )

  pub origin_kept : (keeps : (m : M) (x : C) (n : M) → law.step m x n → law.origin n ≡ law.origin m) (m n : M) (xs : List C) → Runs law.step m xs n → law.origin n ≡ law.origin m
  origin_kept keeps m n [] is = ap law.origin is
  origin_kept keeps m n (x ∷ xs) (mid, first, rest) = origin_kept keeps mid n xs rest ∙ keeps m x mid first
