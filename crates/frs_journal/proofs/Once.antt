-- Two slots load to one state.
use Rattle.std.proofs.Common.{◌≡◌, ℕ, ◌+◌, ◌-◌, ◌%◌, ◌^◌, List, [], ◌∷◌, ◌++◌, length, drop, map, refl, sym, ap, ◌∙◌, subst, append-nil, Option, Some, None}
use Rattle.std.specs.Int.{from_le_bytes, w64}
use Rattle.std.specs.Prelude.{MatchOption}
use Rattle.std.specs.List.{All}
use Rattle.std.proofs.lemmas.List.Elements.{All-head, All-tail}
use Rattle.frs_base.specs.Machines.{Lawful, Rules, Runs}
use Rattle.frs_journal.specs.Loads.{Counts, IsMark, Loads}
use Rattle.frs_journal.specs.Slots.{Holds, IsLog, generation_of, serial_of, taken}
use Rattle.frs_journal.proofs.SameLists.{behind_head, one_list}

pub holds_once : (c : List ℕ) (ps qs : List (List ℕ)) → Holds c ps → Holds c qs → ps ≡ qs
holds_once c ps qs h k =
    one_list ps qs h.gate k.gate h.rest k.rest h.closed k.closed h.short k.short
    (sym (behind_head h.generation h.serial ps h.gate h.rest) ∙ ap (λ (l : List ℕ). drop 25 l) (sym h.bytes ∙ k.bytes) ∙ behind_head k.generation k.serial qs k.gate k.rest)

match_once : (o : Option ℕ) (c : List ℕ) (ps qs : List (List ℕ)) → MatchOption o (ps ≡ []) (λ _. Holds c ps) → MatchOption o (qs ≡ []) (λ _. Holds c qs) → ps ≡ qs
match_once None c ps qs h k = h ∙ sym k
match_once (Some g) c ps qs h k = holds_once c ps qs h k

pub log_once : (a b : List ℕ) (ps qs : List (List ℕ)) → IsLog a b ps → IsLog a b qs → ps ≡ qs
log_once a b ps qs h k = match_once (generation_of (taken a b)) (taken a b) ps qs h.list k.list

tail_same : {X : Type 0} (x y : X) (xs ys : List X) → x ∷ xs ≡ y ∷ ys → xs ≡ ys
tail_same x y xs ys e = cc

head_is : {X : Type 0} (x y : X) (xs ys : List X) → x ∷ xs ≡ y ∷ ys → x ≡ y
head_is x y xs ys e = cc

-- a payload has one count
counts_once : (p q : List ℕ) (m n : ℕ) → p ≡ q → Counts p m → Counts q n → m ≡ n
counts_once p q m n same c d =
    let e : 255 ∷ c.bytes ≡ 255 ∷ d.bytes = sym c.is ∙ same ∙ d.is in
    let f : c.bytes ≡ d.bytes = tail_same 255 255 c.bytes d.bytes e in
    c.count ∙ ap (from_le_bytes w64) f ∙ sym d.count

module _ {M C : Type 0} (law : Rules M C) (lawful : Lawful law) where
  -- no command is a count
  pub no_count : (p : List ℕ) (n : ℕ) (x : C) → law.is_cmd x → Counts p n → law.code x ≡ p → ⊥
  no_count p n x known counts is = lawful.no_end x counts.bytes known (is ∙ counts.is)

  codes_once : (xs ys : List C) → All law.is_cmd xs → All law.is_cmd ys → map law.code xs ≡ map law.code ys → xs ≡ ys
  codes_once [] [] h k e = refl
  codes_once [] (y ∷ ys) h k e = cc
  codes_once (x ∷ xs) [] h k e = cc
  codes_once (x ∷ xs) (y ∷ ys) h k e =
      let a : law.code y ≡ law.code x = sym (head_is (law.code x) (law.code y) (map law.code xs) (map law.code ys) e) in
      let b : map law.code xs ≡ map law.code ys = tail_same (law.code x) (law.code y) (map law.code xs) (map law.code ys) e in
      let one = lawful.no_prefix x y [] (All-head law.is_cmd x xs h) (All-head law.is_cmd y ys k) (a ∙ sym (append-nil (law.code x))) in
      let more = codes_once xs ys (All-tail law.is_cmd x xs h) (All-tail law.is_cmd y ys k) b in
      λ i. one.0 i ∷ more i

  pub runs_once : (s : M) (xs : List C) (m n : M) → Runs law.step s xs m → Runs law.step s xs n → m ≡ n
  runs_once s [] m n h k = h ∙ sym k
  runs_once s (x ∷ xs) m n (a, first, rest) (b, once, more) =
      let P : M → Type 0 = λ t. Runs law.step t xs n in
      runs_once a xs m n rest (subst P (sym (lawful.one_step s x a b first once)) more)

  -- one list of payloads has one count and the same commands
  pub payloads_once : (p q : List (List ℕ)) (xs ys : List C) (m n : ℕ) → IsMark p m → IsMark q n → All law.is_cmd xs → All law.is_cmd ys
      → p ++ map law.code xs ≡ q ++ map law.code ys → (xs ≡ ys) × (m ≡ n)
  payloads_once [] [] xs ys m n hp hq h k e = (codes_once xs ys h k e, hp ∙ sym hq)
  payloads_once [] (b ∷ []) [] ys m n hp hq h k e = absurd cc
  payloads_once [] (b ∷ []) (x ∷ xs) ys m n hp hq h k e = absurd (no_count b n x (All-head law.is_cmd x xs h) hq (head_is (law.code x) b (map law.code xs) (map law.code ys) e))
  payloads_once (a ∷ []) [] xs [] m n hp hq h k e = absurd cc
  payloads_once (a ∷ []) [] xs (y ∷ ys) m n hp hq h k e = absurd (no_count a m y (All-head law.is_cmd y ys k) hp (sym (head_is a (law.code y) (map law.code xs) (map law.code ys) e)))
  payloads_once (a ∷ []) (b ∷ []) xs ys m n hp hq h k e =
      (codes_once xs ys h k (tail_same a b (map law.code xs) (map law.code ys) e), counts_once a b m n (head_is a b (map law.code xs) (map law.code ys) e) hp hq)
  payloads_once [] (b ∷ (b' ∷ bs)) xs ys m n hp hq h k e = absurd hq
  payloads_once (a ∷ []) (b ∷ (b' ∷ bs)) xs ys m n hp hq h k e = absurd hq
  payloads_once (a ∷ (a' ∷ as')) q xs ys m n hp hq h k e = absurd hp

  pub loads_once : (m n : M) (k l : ℕ) (a b : List ℕ) → law.origin m ≡ law.origin n → Loads law m k a b → Loads law n l a b → (m ≡ n) × (k ≡ l)
  loads_once m n k l a b same h i =
      let once = payloads_once h.mark i.mark h.commands i.commands h.saved i.saved h.marked i.marked h.known i.known (log_once a b (h.mark ++ map law.code h.commands) (i.mark ++ map law.code i.commands) h.log i.log) in
      let P : List C → Type 0 = λ ys. Runs law.step (law.origin n) ys n in
      let Q : M → Type 0 = λ o. Runs law.step o h.commands m in (
        runs_once (law.origin n) h.commands m n (subst Q same h.runs) (subst P (sym once.0) i.runs),
        h.count ∙ ap (λ (ys : List C). (serial_of (taken a b) + (length ys - h.saved)) % 2 ^ 64) once.0
            ∙ ap (λ s. (serial_of (taken a b) + (length i.commands - s)) % 2 ^ 64) once.1 ∙ sym i.count,
      )
