-- A record behind a gate.
use Rattle.std.proofs.Common.{◌≡◌, ◌≤◌, ◌<◌, ℕ, ◌*◌, Bool, true, false, ◌&&◌, nat_le, nat_eq, map, append-nil, drop-cons, zero, suc, ◌+◌, ◌-◌, List, [], ◌∷◌, ◌++◌, length, take, drop, refl, sym, ap, ◌∙◌, subst, arith, get_or, length-append}
use Rattle.std.proofs.lemmas.List.{length-take-le, length-drop, drop-drop, take-append-drop, take_at, take_all, get_or-drop, take_more}
use Rattle.std.proofs.lemmas.List.Elements.{All-nil, All-push}
use Rattle.std.proofs.lemmas.Bool.{leb-true, eqb-true, false≢true}
use Rattle.std.proofs.Math.Seq.{take-add}
use Rattle.std.specs.Cmp.Lexicographic.{same_text}
use Rattle.std.specs.List.{All}
use Rattle.std.proofs.lemmas.Nat.{le_bytes_4, le_bytes_8, from_le_bytes-to_le_bytes_4}
use Rattle.std.specs.Int.{to_le_bytes, from_le_bytes, w32, w64}
use Rattle.frs_base.specs.Machines.{Rules}
use Rattle.frs_journal.specs.Loads.{Counts}
use Rattle.frs_journal.specs.Reading.{HasCount, IsValid, LacksRecord, NoCount, ReadTo, generation_at}
use Rattle.frs_journal.specs.Slots.{head, magic, framed, opened, slot_front, is_marked, has_magic, IsShort, serial_at}
use Rattle.frs_journal.proofs.Commits.{payloads_more}
use Rattle.frs_journal.proofs.Fronts.{length_framed, front_more}

abbrev pub length_of : List ℕ → ℕ
length_of rest = from_le_bytes w32 (get_or rest 0 0 ∷ get_or rest 1 0 ∷ get_or rest 2 0 ∷ get_or rest 3 0 ∷ [])

small_four : (a b c d : ℕ) (tail : List ℕ) → ((i : ℕ) → get_or (a ∷ b ∷ c ∷ d ∷ tail) i 0 < 256) → (i : ℕ) → get_or (a ∷ b ∷ c ∷ d ∷ []) i 0 < 256
small_four a b c d tail small zero = small 0
small_four a b c d tail small (suc zero) = small 1
small_four a b c d tail small (suc (suc zero)) = small 2
small_four a b c d tail small (suc (suc (suc zero))) = small 3
small_four a b c d tail small (suc (suc (suc (suc i)))) = omega arith

pub record_whole : (rest : List ℕ) (count : ℕ) → ((i : ℕ) → get_or rest i 0 < 256) → 5 ≤ length rest → count ≡ length_of rest → count < length rest - 4
    → rest ≡ framed (take count (drop 4 rest)) ++ drop (4 + count) rest
unfolding framed
record_whole [] count small long is fits = absurd (omega (arith, long))
record_whole (a ∷ []) count small long is fits = absurd (omega (arith, long))
record_whole (a ∷ b ∷ []) count small long is fits = absurd (omega (arith, long))
record_whole (a ∷ b ∷ c ∷ []) count small long is fits = absurd (omega (arith, long))
record_whole (a ∷ b ∷ c ∷ d ∷ tail) count small long is fits =
    let four : List ℕ = a ∷ b ∷ c ∷ d ∷ [] in
    let n : length (take count tail) ≡ count = length-take-le count tail (omega (arith, fits)) in
    let e : to_le_bytes w32 (length (take count tail)) ≡ four = ap (to_le_bytes w32) n ∙ le_bytes_4 four count refl (small_four a b c d tail small) is in
    let f : drop (4 + count) (a ∷ b ∷ c ∷ d ∷ tail) ≡ drop count tail = sym (drop-drop count 4 (a ∷ b ∷ c ∷ d ∷ tail)) in
    sym (ap (λ (l : List ℕ). (l ++ take count tail) ++ drop (4 + count) (a ∷ b ∷ c ∷ d ∷ tail)) e ∙ ap (λ (l : List ℕ). a ∷ b ∷ c ∷ d ∷ (take count tail ++ l)) f
    ∙ ap (λ (l : List ℕ). a ∷ b ∷ c ∷ d ∷ l) (take-append-drop count tail))

pub record_short : (rest p more : List ℕ) (gate : ℕ) → length rest < 5 → rest ≡ framed p ++ gate ∷ more → ⊥
record_short rest p more gate short is = omega (arith, ap length is, length-append (framed p) (gate ∷ more), length_framed p)

pub record_none : (rest p more : List ℕ) (count gate : ℕ) → count ≡ length_of rest → length rest - 4 ≤ count → IsShort p → rest ≡ framed p ++ gate ∷ more → ⊥
unfolding framed
record_none rest p more count gate counted over short is =
    let e : count ≡ length p = counted ∙ ap length_of is ∙ from_le_bytes-to_le_bytes_4 (length p) short in
    omega (arith, ap length is, length-append (framed p) (gate ∷ more), length_framed p, e, over)

pub framed_same : (p q u v : List ℕ) → IsShort p → IsShort q → framed p ++ u ≡ framed q ++ v → p ≡ q
unfolding framed
framed_same p q u v short_p short_q is =
    let e : length p ≡ length q = sym (from_le_bytes-to_le_bytes_4 (length p) short_p) ∙ ap length_of is ∙ from_le_bytes-to_le_bytes_4 (length q) short_q in
    let f : p ++ u ≡ q ++ v = ap (λ (l : List ℕ). drop 4 l) is in
    sym (take_at p u (length p) refl) ∙ ap (λ (l : List ℕ). take (length p) l) f ∙ ap (λ n. take n (q ++ v)) e ∙ take_at q v (length q) refl

head_length : (generation serial : ℕ) → length (head generation serial) ≡ 25
unfolding head
head_length generation serial = refl

small_take : (n : ℕ) (xs : List ℕ) → ((i : ℕ) → get_or xs i 0 < 256) → (i : ℕ) → get_or (take n xs) i 0 < 256
small_take zero xs small i = omega arith
small_take (suc n) [] small i = omega arith
small_take (suc n) (x ∷ xs) small zero = small 0
small_take (suc n) (x ∷ xs) small (suc i) = small_take n xs (λ j. small (suc j)) i

small_drop : (n : ℕ) (xs : List ℕ) → ((i : ℕ) → get_or xs i 0 < 256) → (i : ℕ) → get_or (drop n xs) i 0 < 256
small_drop n xs small i = omega (arith, get_or-drop n xs i 0, small (n + i))

eight : (n : ℕ) (xs : List ℕ) → ((i : ℕ) → get_or xs i 0 < 256) → n + 8 ≤ length xs → to_le_bytes w64 (from_le_bytes w64 (take 8 (drop n xs))) ≡ take 8 (drop n xs)
eight n xs small long =
    le_bytes_8 (take 8 (drop n xs)) (from_le_bytes w64 (take 8 (drop n xs))) (length-take-le 8 (drop n xs) (omega (arith, long, length-drop n xs)))
    (small_take 8 (drop n xs) (small_drop n xs small)) refl

and_left : (a b : Bool) → (a && b) ≡ true → a ≡ true
and_left true b h = refl
and_left false b h = h

and_right : (a b : Bool) → (a && b) ≡ true → b ≡ true
and_right true b h = h
and_right false b h = absurd (false≢true h)

pub valid_long : (bytes : List ℕ) → IsValid bytes → 26 ≤ length bytes
valid_long bytes valid = leb-true 26 (length bytes) (and_left (nat_le 26 (length bytes)) (nat_eq (get_or bytes 0 0) 1) (and_left (is_marked bytes) (has_magic bytes) valid))

valid_gate : (bytes : List ℕ) → IsValid bytes → get_or bytes 0 0 ≡ 1
valid_gate bytes valid = eqb-true (get_or bytes 0 0) 1 (and_right (nat_le 26 (length bytes)) (nat_eq (get_or bytes 0 0) 1) (and_left (is_marked bytes) (has_magic bytes) valid))

valid_magic : (bytes : List ℕ) → IsValid bytes → take 8 (drop 1 bytes) ≡ magic
valid_magic bytes valid = same_text (take 8 (drop 1 bytes)) magic (sym (and_right (is_marked bytes) (has_magic bytes) valid))

pub valid_head : (bytes : List ℕ) → ((i : ℕ) → get_or bytes i 0 < 256) → IsValid bytes → take 25 bytes ≡ head (generation_at bytes) (serial_at bytes)
unfolding head generation_at serial_at
valid_head bytes small valid =
    let long = valid_long bytes valid in
    let g : take 8 (drop 9 bytes) ≡ to_le_bytes w64 (from_le_bytes w64 (take 8 (drop 9 bytes))) = sym (eight 9 bytes small (omega (arith, long))) in
    let s : take 8 (drop 17 bytes) ≡ to_le_bytes w64 (from_le_bytes w64 (take 8 (drop 17 bytes))) = sym (eight 17 bytes small (omega (arith, long))) in
    let a : take 25 bytes ≡ take 1 bytes ++ take 24 (drop 1 bytes) = take-add 1 24 bytes in
    let b : take 24 (drop 1 bytes) ≡ take 8 (drop 1 bytes) ++ take 16 (drop 8 (drop 1 bytes)) = take-add 8 16 (drop 1 bytes) in
    let c : take 16 (drop 9 bytes) ≡ take 8 (drop 9 bytes) ++ take 8 (drop 8 (drop 9 bytes)) = take-add 8 8 (drop 9 bytes) in
    let one : take 1 bytes ≡ 1 ∷ [] = take_more bytes 0 0 (omega (arith, long)) ∙ ap (λ x. x ∷ []) (valid_gate bytes valid) in
    let d : drop 8 (drop 1 bytes) ≡ drop 9 bytes = drop-drop 8 1 bytes in
    let f : drop 8 (drop 9 bytes) ≡ drop 17 bytes = drop-drop 8 9 bytes in
    let tail : take 16 (drop 8 (drop 1 bytes)) ≡ to_le_bytes w64 (from_le_bytes w64 (take 8 (drop 9 bytes))) ++ to_le_bytes w64 (from_le_bytes w64 (take 8 (drop 17 bytes))) =
    ap (λ (l : List ℕ). take 16 l) d ∙ c ∙ ap (λ (l : List ℕ). take 8 (drop 9 bytes) ++ take 8 l) f ∙ ap (λ (l : List ℕ). l ++ take 8 (drop 17 bytes)) g ∙ ap (λ (l : List ℕ). to_le_bytes w64 (from_le_bytes w64 (take 8 (drop 9 bytes))) ++ l) s in
    a ∙ ap (λ (l : List ℕ). l ++ take 24 (drop 1 bytes)) one ∙ ap (λ (l : List ℕ). 1 ∷ l) (b ∙ ap (λ (l : List ℕ). l ++ take 16 (drop 8 (drop 1 bytes))) (valid_magic bytes valid) ∙ ap (λ (l : List ℕ). magic ++ l) tail)

-- the bytes behind a place, as a slice gives them
pub slice_behind : (bytes : List ℕ) (at : ℕ) → take (length bytes - at) (drop at bytes) ≡ drop at bytes
slice_behind bytes at = take_all (length bytes - at) (drop at bytes) (omega (arith, length-drop at bytes))

-- a count in a payload
byte_behind : (payload : List ℕ) (k : ℕ) → get_or (drop 1 payload) k 0 ≡ get_or payload (1 + k) 0
byte_behind payload k = get_or-drop 1 payload k 0

tail_of : (payload : List ℕ) → 0 < length payload → get_or payload 0 0 ≡ 255 → payload ≡ 255 ∷ drop 1 payload
tail_of [] some is = absurd (omega (arith, some))
tail_of (x ∷ xs) some is = ap (λ (y : ℕ). y ∷ xs) is

pub counts_in : (payload : List ℕ) (n : ℕ) → length payload ≡ 9 → get_or payload 0 0 ≡ 255
    → n ≡ get_or payload 1 0 + get_or payload 2 0 * 256 + get_or payload 3 0 * 65536 + get_or payload 4 0 * 16777216 + get_or payload 5 0 * 4294967296 + get_or payload 6 0 * 1099511627776 + get_or payload 7 0 * 281474976710656 + get_or payload 8 0 * 72057594037927936
    → Counts payload n
counts_in payload n size first is = record {
  bytes = drop 1 payload;
  is = tail_of payload (omega (arith, size)) first;
  size = omega (arith, size, length-drop 1 payload);
  count = omega (arith, is, byte_behind payload 0, byte_behind payload 1, byte_behind payload 2, byte_behind payload 3, byte_behind payload 4, byte_behind payload 5, byte_behind payload 6, byte_behind payload 7);
}

pub counts_size : (payload : List ℕ) (n : ℕ) → Counts payload n → length payload ≡ 9
counts_size payload n c = omega (arith, ap length c.is, c.size)

pub counts_first : (payload : List ℕ) (n : ℕ) → Counts payload n → get_or payload 0 0 ≡ 255
counts_first payload n c = ap (λ (l : List ℕ). get_or l 0 0) c.is

-- a record of a count is the one that was found
pub count_none : (rest p payload more : List ℕ) (saved gate : ℕ) → rest ≡ framed p ++ drop (4 + length p) rest → IsShort p → Counts payload saved → rest ≡ framed payload ++ gate ∷ more → payload ≡ p
count_none rest p payload more saved gate whole short counts is =
    framed_same payload p (gate ∷ more) (drop (4 + length p) rest) (omega (arith, counts_size payload saved counts)) short (sym is ∙ whole)

pub short_count : (payload : List ℕ) (saved : ℕ) → Counts payload saved → IsShort payload
short_count payload saved counts = omega (arith, counts_size payload saved counts)

module _ {M C : Type 0} (law : Rules M C) where
  pub read_none : (bytes : List ℕ) → ((i : ℕ) → get_or bytes i 0 < 256) → IsValid bytes → (get_or bytes 25 0 ≡ 1 → NoCount bytes) → ReadTo law bytes 25 0 []
  read_none bytes small valid none = record {
    mark = [];
    marked = refl;
    known = All-nil law.is_cmd;
    short = All-nil IsShort;
    front = valid_head bytes small valid ∙ sym (append-nil (head (generation_at bytes) (serial_at bytes)));
    inside = omega (arith, valid_long bytes valid);
    no_count = λ _. none;
  }

  -- one record more
  more_front : (bytes rest p : List ℕ) (at : ℕ) (ps : List (List ℕ)) → take at bytes ≡ slot_front (generation_at bytes) (serial_at bytes) ps → at < length bytes → get_or bytes at 0 ≡ 1 → rest ≡ drop (at + 1) bytes
      → rest ≡ framed p ++ drop (4 + length p) rest → take (at + (5 + length p)) bytes ≡ slot_front (generation_at bytes) (serial_at bytes) (ps ++ p ∷ [])
  more_front bytes rest p at ps front inside opens slice whole =
      let e : drop at bytes ≡ get_or bytes at 0 ∷ drop (suc at) bytes = drop-cons bytes at 0 inside in
      let sc : suc at ≡ at + 1 = omega arith in
      let f : drop at bytes ≡ (1 ∷ framed p) ++ drop (4 + length p) rest =
      e ∙ ap (λ (y : ℕ). y ∷ drop (suc at) bytes) opens ∙ ap (λ n. 1 ∷ drop n bytes) sc ∙ ap (λ (l : List ℕ). 1 ∷ l) (sym slice ∙ whole) in
      let n : length (1 ∷ framed p) ≡ 5 + length p = omega (arith, length_framed p) in
      take-add at (5 + length p) bytes
      ∙ ap (λ (l : List ℕ). l ++ take (5 + length p) (drop at bytes)) front
      ∙ ap (λ (l : List ℕ). slot_front (generation_at bytes) (serial_at bytes) ps ++ l) (ap (λ (l : List ℕ). take (5 + length p) l) f ∙ take_at (1 ∷ framed p) (drop (4 + length p) rest) (5 + length p) n)
      ∙ sym (front_more (generation_at bytes) (serial_at bytes) ps p)

  pub read_count : (bytes : List ℕ) (saved : ℕ) → ((i : ℕ) → get_or bytes i 0 < 256) → IsValid bytes → HasCount bytes saved → ReadTo law bytes 39 saved []
  read_count bytes saved small valid has =
      let size = counts_size has.payload saved has.counts in
      let n : 4 + length has.payload ≡ 13 = omega (arith, size) in
      let d : drop 13 (drop 26 bytes) ≡ drop 39 bytes = drop-drop 13 26 bytes in
      let w : drop 26 bytes ≡ framed has.payload ++ drop (4 + length has.payload) (drop 26 bytes) =
      has.whole ∙ ap (λ (l : List ℕ). framed has.payload ++ l) (sym d ∙ ap (λ k. drop k (drop 26 bytes)) (sym n)) in
      let at : 25 + (5 + length has.payload) ≡ 39 = omega (arith, size) in
      record {
        mark = has.payload ∷ [];
        marked = has.counts;
        known = All-nil law.is_cmd;
        short = All-push IsShort [] has.payload (All-nil IsShort) (short_count has.payload saved has.counts);
        front = ap (λ k. take k bytes) (sym at)
            ∙ more_front bytes (drop 26 bytes) has.payload 25 [] (valid_head bytes small valid ∙ sym (append-nil (head (generation_at bytes) (serial_at bytes)))) (omega (arith, has.inside)) has.open_gate refl w;
        inside = has.inside;
        no_count = λ h. absurd (omega (arith, h));
      }

  pub read_more : (bytes rest p : List ℕ) (at saved : ℕ) (xs : List C) (x : C) → ReadTo law bytes at saved xs → get_or bytes at 0 ≡ 1 → rest ≡ drop (at + 1) bytes
      → rest ≡ framed p ++ drop (4 + length p) rest → 4 + length p < length rest → law.is_cmd x → law.code x ≡ p → IsShort p
      → ReadTo law bytes (at + (5 + length p)) saved (xs ++ x ∷ [])
  read_more bytes rest p at saved xs x before opens slice whole fits known spelt short =
      let ps : List (List ℕ) = before.mark ++ map law.code xs in
      let more : before.mark ++ map law.code (xs ++ x ∷ []) ≡ (before.mark ++ map law.code xs) ++ law.code x ∷ [] = payloads_more law before.mark xs x in
      let P : List (List ℕ) → Type 0 = λ l. All IsShort l in
      let Q : List ℕ → Type 0 = λ l. IsShort l in
      let past : 25 ≤ at = omega (arith, ap length before.front, length-take-le at bytes (omega (arith, before.inside)), length-append (head (generation_at bytes) (serial_at bytes)) (opened (before.mark ++ map law.code xs)), head_length (generation_at bytes) (serial_at bytes)) in
      record {
        mark = before.mark;
        marked = before.marked;
        known = All-push law.is_cmd xs x before.known known;
        short = subst P (sym more) (All-push IsShort (before.mark ++ map law.code xs) (law.code x) before.short (subst Q (sym spelt) short));
        front = more_front bytes rest p at (before.mark ++ map law.code xs) before.front before.inside opens slice whole
            ∙ ap (λ (l : List ℕ). slot_front (generation_at bytes) (serial_at bytes) ((before.mark ++ map law.code xs) ++ l ∷ [])) (sym spelt)
            ∙ ap (λ (l : List (List ℕ)). slot_front (generation_at bytes) (serial_at bytes) l) (sym more);
        inside = omega (arith, fits, ap length slice, length-drop (at + 1) bytes);
        no_count = λ h. absurd (omega (arith, h, past));
      }

  pub broken_here : (bytes rest p : List ℕ) (at saved : ℕ) (xs : List C) → ReadTo law bytes at saved xs → get_or bytes at 0 ≡ 1 → rest ≡ drop (at + 1) bytes
      → rest ≡ framed p ++ drop (4 + length p) rest → IsShort p → ((x : C) → law.is_cmd x → law.code x ≡ p → ⊥) → LacksRecord law bytes at
  broken_here bytes rest p at saved xs before opens slice whole short no_code = record {
    saved = saved;
    commands = xs;
    before = before;
    open_gate = opens;
    no_command = λ x gate more known fits is. no_code x known (sym (framed_same p (law.code x) (drop (4 + length p) rest) (gate ∷ more) short fits (sym whole ∙ slice ∙ is)));
  }

  pub broken_off : (bytes rest : List ℕ) (at saved : ℕ) (xs : List C) → ReadTo law bytes at saved xs → get_or bytes at 0 ≡ 1 → rest ≡ drop (at + 1) bytes
      → ((p : List ℕ) (gate : ℕ) (more : List ℕ) → IsShort p → rest ≡ framed p ++ gate ∷ more → ⊥) → LacksRecord law bytes at
  broken_off bytes rest at saved xs before opens slice none = record {
    saved = saved;
    commands = xs;
    before = before;
    open_gate = opens;
    no_command = λ x gate more known fits is. none (law.code x) gate more fits (slice ∙ is);
  }

pub has_count : (bytes rest p : List ℕ) (saved : ℕ) → get_or bytes 25 0 ≡ 1 → rest ≡ drop 26 bytes → rest ≡ framed p ++ drop (4 + length p) rest → 4 + length p < length rest
    → Counts p saved → HasCount bytes saved
has_count bytes rest p saved opens slice whole fits counts =
    let n : 4 + length p ≡ 13 = omega (arith, counts_size p saved counts) in
    record {
      payload = p;
      open_gate = opens;
      counts = counts;
      whole = sym slice ∙ whole ∙ ap (λ (l : List ℕ). framed p ++ l) (ap (λ k. drop k rest) n ∙ ap (λ (l : List ℕ). drop 13 l) slice ∙ drop-drop 13 26 bytes);
      inside = omega (arith, n, fits, ap length slice, length-drop 26 bytes);
    }

pub no_count_off : (bytes rest : List ℕ) → rest ≡ drop 26 bytes → ((p : List ℕ) (gate : ℕ) (more : List ℕ) → IsShort p → rest ≡ framed p ++ gate ∷ more → ⊥) → NoCount bytes
no_count_off bytes rest slice none = λ payload saved gate more counts is. none payload gate more (short_count payload saved counts) (slice ∙ is)

pub no_count_other : (bytes rest p : List ℕ) → rest ≡ drop 26 bytes → rest ≡ framed p ++ drop (4 + length p) rest → IsShort p → ((saved : ℕ) → Counts p saved → ⊥) → NoCount bytes
no_count_other bytes rest p slice whole short none = λ payload saved gate more counts is.
    (let P : List ℕ → Type 0 = λ l. Counts l saved in
    none saved (subst P (count_none rest p payload more saved gate whole short counts (slice ∙ is)) counts))
