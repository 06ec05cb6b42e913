-- Slots that load aren't damaged.
use Rattle.std.proofs.Common.{◌≡◌, ◌≤◌, ◌⊎◌, ℕ, ◌+◌, true, List, [], ◌∷◌, ◌++◌, length, drop, map, refl, sym, ap, ◌∙◌, subst, arith, get_or, append_assoc, length-append, Option, Some, None, inl, inr, if◌then◌else◌}
use Rattle.std.proofs.lemmas.Bool.{false≢true}
use Rattle.std.proofs.lemmas.List.{drop_at, length-take-le}
use Rattle.std.proofs.lemmas.List.Elements.{All-head, All-tail}
use Rattle.std.specs.List.{All}
use Rattle.std.specs.Prelude.{MatchOption}
use Rattle.frs_base.specs.Machines.{Lawful, Rules}
use Rattle.frs_journal.specs.Damage.{IsBroken, IsDamaged}
use Rattle.frs_journal.specs.Loads.{Counts, IsMark, Loads}
use Rattle.frs_journal.specs.Reading.{CountsTooMany, LacksRecord, generation_at}
use Rattle.frs_journal.specs.Slots.{Holds, IsList, IsShort, framed, generation_of, head, opened, serial_at, slot_front, taken, takes_b}
use Rattle.frs_journal.specs.declared.faults.Slot.{Slot}
use Rattle.frs_journal.specs.declared.faults.Slot.TheVariants.{A, B}
use Rattle.frs_journal.proofs.Once.{no_count, payloads_once}
use Rattle.frs_journal.proofs.Openings.{read_whole}
use Rattle.frs_journal.proofs.Records.{framed_same}
use Rattle.frs_journal.proofs.SameLists.{behind_head, one_list}

-- records are followed by a byte
next_byte : (ps : List (List ℕ)) (gate : ℕ) (more : List ℕ) → (y : ℕ) × (ys : List ℕ) × (opened ps ++ gate ∷ more ≡ y ∷ ys)
next_byte [] gate more = (gate, more, refl)
next_byte (p ∷ ps) gate more = (1, (framed p ++ opened ps) ++ gate ∷ more, refl)

-- a payload behind the others, whole and with a gate behind it
pub record Next (ps qs : List (List ℕ)) (rest : List ℕ) : Type 0 where
  payload : List ℕ
  others : List (List ℕ)
  gate : ℕ
  more : List ℕ
  list : qs ≡ ps ++ payload ∷ others
  short : IsShort payload
  whole : rest ≡ framed payload ++ gate ∷ more

-- the first of records
pub first_next : (q : List ℕ) (qs : List (List ℕ)) (gate : ℕ) (rest more : List ℕ) → All IsShort (q ∷ qs) → 1 ∷ rest ≡ opened (q ∷ qs) ++ gate ∷ more → Next [] (q ∷ qs) rest
first_next q qs gate rest more short is =
    let n = next_byte qs gate more in
    record {
      payload = q;
      others = qs;
      gate = n.0;
      more = n.1;
      list = refl;
      short = All-head IsShort q qs short;
      whole = ap (λ (l : List ℕ). drop 1 l) is ∙ append_assoc (framed q) (opened qs) (gate ∷ more) ∙ ap (λ (l : List ℕ). framed q ++ l) n.2;
    }

-- the same behind one record more
pub next_more : (p q : List ℕ) (ps qs : List (List ℕ)) (rest : List ℕ) → p ≡ q → Next ps qs rest → Next (p ∷ ps) (q ∷ qs) rest
next_more p q ps qs rest same n =
    record { payload = n.payload; others = n.others; gate = n.gate; more = n.more; list = λ i. sym same i ∷ n.list i; short = n.short; whole = n.whole }

-- two lists of records that go on with other bytes begin with one payload, and go on behind it
pub behind_first : (p q : List ℕ) (ps qs : List (List ℕ)) (u v : List ℕ) → All IsShort (p ∷ ps) → All IsShort (q ∷ qs) → opened (p ∷ ps) ++ u ≡ opened (q ∷ qs) ++ v
    → (p ≡ q) × (opened ps ++ u ≡ opened qs ++ v)
behind_first p q ps qs u v sp sq is =
    let e : framed p ++ (opened ps ++ u) ≡ framed q ++ (opened qs ++ v) =
    sym (append_assoc (framed p) (opened ps) u) ∙ ap (λ (l : List ℕ). drop 1 l) is ∙ append_assoc (framed q) (opened qs) v in
    let same : p ≡ q = framed_same p q (opened ps ++ u) (opened qs ++ v) (All-head IsShort p ps sp) (All-head IsShort q qs sq) e in (
      same,
      sym (drop_at (framed p) (opened ps ++ u) (length (framed p)) refl) ∙ ap (λ (l : List ℕ). drop (length (framed p)) l) e
          ∙ drop_at (framed q) (opened qs ++ v) (length (framed p)) (ap (λ (l : List ℕ). length (framed l)) (sym same)),
    )

next_payload : (ps qs : List (List ℕ)) (gate : ℕ) (rest more : List ℕ) → All IsShort ps → All IsShort qs → (gate ≡ 1 → ⊥) → opened ps ++ 1 ∷ rest ≡ opened qs ++ gate ∷ more → Next ps qs rest
next_payload [] [] gate rest more sp sq closed is = absurd (closed (sym (ap (λ (l : List ℕ). get_or l 0 0) is)))
next_payload [] (q ∷ qs) gate rest more sp sq closed is = first_next q qs gate rest more sq is
next_payload (p ∷ ps) [] gate rest more sp sq closed is = absurd (closed (sym (ap (λ (l : List ℕ). get_or l 0 0) is)))
next_payload (p ∷ ps) (q ∷ qs) gate rest more sp sq closed is =
    let on = behind_first p q ps qs (1 ∷ rest) (gate ∷ more) sp sq is in
    next_more p q ps qs rest on.0 (next_payload ps qs gate rest more (All-tail IsShort p ps sp) (All-tail IsShort q qs sq) closed on.1)

tails : {X : Type 0} (x y : X) (xs ys : List X) → x ∷ xs ≡ y ∷ ys → xs ≡ ys
tails x y xs ys e = cc

heads : {X : Type 0} (x y : X) (xs ys : List X) → x ∷ xs ≡ y ∷ ys → x ≡ y
heads x y xs ys e = cc

head_size : (generation serial : ℕ) → length (head generation serial) ≡ 25
unfolding head
head_size generation serial = refl

module _ {M C : Type 0} (law : Rules M C) (lawful : Lawful law) where
  -- a payload among those of commands is a command's
  in_codes : (ps : List (List ℕ)) (r : List ℕ) (rs : List (List ℕ)) (ys : List C) → All law.is_cmd ys → map law.code ys ≡ ps ++ r ∷ rs → (z : C) × law.is_cmd z × (law.code z ≡ r)
  in_codes [] r rs [] known e = absurd cc
  in_codes [] r rs (y ∷ ys) known e = (y, All-head law.is_cmd y ys known, heads (law.code y) r (map law.code ys) rs e)
  in_codes (p ∷ ps) r rs [] known e = absurd cc
  in_codes (p ∷ ps) r rs (y ∷ ys) known e = in_codes ps r rs ys (All-tail law.is_cmd y ys known) (tails (law.code y) p (map law.code ys) (ps ++ r ∷ rs) e)

  -- a payload behind others is a command's, or it is a count and the first
  which : (p q : List (List ℕ)) (m n : ℕ) (xs ys : List C) (r : List ℕ) (rs : List (List ℕ)) → IsMark p m → IsMark q n → All law.is_cmd xs → All law.is_cmd ys
      → q ++ map law.code ys ≡ (p ++ map law.code xs) ++ r ∷ rs → ((z : C) × law.is_cmd z × (law.code z ≡ r)) ⊎ (Counts r n × (p ++ map law.code xs ≡ []))
  which [] [] m n xs ys r rs hp hq kx ky e = inl (in_codes (map law.code xs) r rs ys ky e)
  which [] (b ∷ []) m n [] ys r rs hp hq kx ky e = let P : List ℕ → Type 0 = λ l. Counts l n in inr (subst P (heads b r (map law.code ys) rs e) hq, refl)
  which [] (b ∷ []) m n (x ∷ xs) ys r rs hp hq kx ky e =
      absurd (no_count law lawful b n x (All-head law.is_cmd x xs kx) hq (sym (heads b (law.code x) (map law.code ys) (map law.code xs ++ r ∷ rs) e)))
  which (a ∷ []) [] m n xs [] r rs hp hq kx ky e = absurd cc
  which (a ∷ []) [] m n xs (y ∷ ys) r rs hp hq kx ky e =
      absurd (no_count law lawful a m y (All-head law.is_cmd y ys ky) hp (heads (law.code y) a (map law.code ys) (map law.code xs ++ r ∷ rs) e))
  which (a ∷ []) (b ∷ []) m n xs ys r rs hp hq kx ky e = inl (in_codes (map law.code xs) r rs ys ky (tails b a (map law.code ys) (map law.code xs ++ r ∷ rs) e))
  which [] (b ∷ (b' ∷ bs)) m n xs ys r rs hp hq kx ky e = absurd hq
  which (a ∷ []) (b ∷ (b' ∷ bs)) m n xs ys r rs hp hq kx ky e = absurd hq
  which (a ∷ (a' ∷ as')) q m n xs ys r rs hp hq kx ky e = absurd hp

  -- the payload behind the records up to a place that lacks one isn't there
  pub lacks_next : (bytes : List ℕ) (at : ℕ) (q : List (List ℕ)) (n : ℕ) (ys : List C) → (l : LacksRecord law bytes at) → IsMark q n → All law.is_cmd ys
      → Next (l.before.mark ++ map law.code l.commands) (q ++ map law.code ys) (drop (at + 1) bytes) → ⊥
  lacks_next bytes at q n ys l marked known next = by_kind (which l.before.mark q l.saved n l.commands ys next.payload next.others l.before.marked marked l.before.known known next.list)
    where
      by_kind : ((z : C) × law.is_cmd z × (law.code z ≡ next.payload)) ⊎ (Counts next.payload n × (l.before.mark ++ map law.code l.commands ≡ [])) → ⊥
      by_kind (inl (z, cmd, is)) =
          let P : List ℕ → Type 0 = λ x. IsShort x in
          l.no_command z next.gate next.more cmd (subst P (sym is) next.short) (next.whole ∙ ap (λ (x : List ℕ). framed x ++ next.gate ∷ next.more) (sym is))
      by_kind (inr (counts, empty)) =
          let place : at ≡ 25 = omega (arith, ap length l.before.front, length-take-le at bytes (omega (arith, l.before.inside)), ap (λ (ps : List (List ℕ)). length (head (generation_at bytes) (serial_at bytes) ++ opened ps)) empty, length-append (head (generation_at bytes) (serial_at bytes)) [], head_size (generation_at bytes) (serial_at bytes)) in
          let opens : get_or bytes 25 0 ≡ 1 = ap (λ k. get_or bytes k 0) (sym place) ∙ l.open_gate in
          let next_is : drop 26 bytes ≡ framed next.payload ++ next.gate ∷ next.more = ap (λ k. drop (k + 1) bytes) (sym place) ∙ next.whole in
          l.before.no_count place opens next.payload n next.gate next.more counts next_is

  -- the bytes of a slot by the records up to a place that lacks one
  pub lacks_whole : (bytes : List ℕ) (at : ℕ) → (l : LacksRecord law bytes at)
      → bytes ≡ slot_front (generation_at bytes) (serial_at bytes) (l.before.mark ++ map law.code l.commands) ++ 1 ∷ drop (at + 1) bytes
  lacks_whole bytes at l =
      read_whole law bytes at l.saved l.commands l.before
      ∙ ap (λ (x : ℕ). slot_front (generation_at bytes) (serial_at bytes) (l.before.mark ++ map law.code l.commands) ++ x ∷ drop (at + 1) bytes) l.open_gate

  pub lacks_none : (bytes : List ℕ) (at : ℕ) (q : List (List ℕ)) (n : ℕ) (ys : List C) → LacksRecord law bytes at → IsMark q n → All law.is_cmd ys → Holds bytes (q ++ map law.code ys) → ⊥
  lacks_none bytes at q n ys l marked known h =
      lacks_next bytes at q n ys l marked known
      (next_payload (l.before.mark ++ map law.code l.commands) (q ++ map law.code ys) h.gate (drop (at + 1) bytes) h.rest l.before.short h.short h.closed
      (sym (behind_head (generation_at bytes) (serial_at bytes) (l.before.mark ++ map law.code l.commands) 1 (drop (at + 1) bytes)) ∙ ap (λ (x : List ℕ). drop 25 x) (sym (lacks_whole bytes at l) ∙ h.bytes)
      ∙ behind_head h.generation h.serial (q ++ map law.code ys) h.gate h.rest))

  counts_none : (bytes : List ℕ) (q : List (List ℕ)) (n : ℕ) (ys : List C) → CountsTooMany law bytes → IsMark q n → n ≤ length ys → All law.is_cmd ys → Holds bytes (q ++ map law.code ys) → ⊥
  counts_none bytes q n ys t marked enough known h =
      let whole = read_whole law bytes t.at t.saved t.commands t.before in
      let same : t.before.mark ++ map law.code t.commands ≡ q ++ map law.code ys =
      one_list (t.before.mark ++ map law.code t.commands) (q ++ map law.code ys) (get_or bytes t.at 0) h.gate (drop (t.at + 1) bytes) h.rest t.closed h.closed t.before.short h.short
      (sym (behind_head (generation_at bytes) (serial_at bytes) (t.before.mark ++ map law.code t.commands) (get_or bytes t.at 0) (drop (t.at + 1) bytes)) ∙ ap (λ (x : List ℕ). drop 25 x) (sym whole ∙ h.bytes)
      ∙ behind_head h.generation h.serial (q ++ map law.code ys) h.gate h.rest) in
      let once = payloads_once law lawful t.before.mark q t.commands ys t.saved n t.before.marked marked t.before.known known same in
      omega (arith, t.more, enough, ap length once.0, once.1)

  broken_none : (bytes : List ℕ) (offset : ℕ) (q : List (List ℕ)) (n : ℕ) (ys : List C) → IsBroken law bytes offset → IsMark q n → n ≤ length ys → All law.is_cmd ys → Holds bytes (q ++ map law.code ys) → ⊥
  broken_none bytes offset q n ys (inl lacks) marked enough known h = lacks_none bytes offset q n ys lacks marked known h
  broken_none bytes offset q n ys (inr (too, place)) marked enough known h = counts_none bytes q n ys too marked enough known h

  held : (o : Option ℕ) (c : List ℕ) (ps : List (List ℕ)) → (o ≡ None → ⊥) → MatchOption o (ps ≡ []) (λ _. Holds c ps) → Holds c ps
  held None c ps some h = absurd (some refl)
  held (Some g) c ps some h = h

  not_none : (x o : Option ℕ) → takes_b x o ≡ true → o ≡ None → ⊥
  not_none x o takes none = let P : Option ℕ → Type 0 = λ y. takes_b x y ≡ true in false≢true (subst P none takes)

  pub never_damaged : (m : M) (k : ℕ) (a b : List ℕ) (slot : Slot) (offset : ℕ) → Loads law m k a b → IsDamaged law a b slot offset → ⊥
  never_damaged m k a b A offset l (inl (bad, place)) = false≢true (sym l.log.good_a ∙ bad)
  never_damaged m k a b A offset l (inr (fine_a, fine_b, some, over, broken)) =
      let is : taken a b ≡ a = ap (λ t. if t then b else a) over in
      let P : List ℕ → Type 0 = λ c. IsList c (l.mark ++ map law.code l.commands) in
      broken_none a offset l.mark l.saved l.commands broken l.marked l.enough l.known (held (generation_of a) a (l.mark ++ map law.code l.commands) some (subst P is l.log.list))
  never_damaged m k a b B offset l (inl (fine, bad, place)) = false≢true (sym l.log.good_b ∙ bad)
  never_damaged m k a b B offset l (inr (fine_a, fine_b, over, broken)) =
      let is : taken a b ≡ b = ap (λ t. if t then b else a) over in
      let P : List ℕ → Type 0 = λ c. IsList c (l.mark ++ map law.code l.commands) in
      broken_none b offset l.mark l.saved l.commands broken l.marked l.enough l.known (held (generation_of b) b (l.mark ++ map law.code l.commands) (not_none (generation_of a) (generation_of b) over) (subst P is l.log.list))
