-- What is said of a stream goes on from turn to turn, whatever comes behind.
use Rattle.std.proofs.Common.{◌≡◌, ◌∙◌, ℕ, zero, suc, ◌+◌, ◌-◌, ◌<◌, ◌≤◌, List, [], ◌∷◌, ◌++◌, Option, Some, None, Result, Ok, Err, codes, drop, get_or, length, take, refl, sym, ap, subst, append_assoc, arith, length-append, length-drop, lit<, take-append-drop, inl, inr}
use Rattle.std.specs.Prelude.{◌⊎◌, decimal}
use Rattle.std.proofs.lemmas.List.{append-nil, drop-append-le, take_more}
use Rattle.ndr_core.specs.Items.{AreBytes}
use Rattle.ndr_core.proofs.Steps.{AreBytes-drop}
use Rattle.rpc_pdu.specs.Decoding.{decoded}
use Rattle.rpc_pdu.specs.declared.pdu.Pdu.{Pdu}
use Rattle.rpc_pdu.specs.declared.refusal.PduBad.{PduBad}
use Rattle.rpc_pdu.proofs.Steady.{stays}
use Rattle.rpc_frag.specs.Streams.{whole}
use Rattle.rpc_frag.specs.declared.fragment.Whole.{Whole}
use Rattle.rpc_frag.specs.declared.refusal.FragBad.{FragBad}
use Rattle.wire_rows.specs.Naming.{bad_text, frag_bad_text}
use Rattle.wire_rows.specs.Feeding.{Closes, IsFresh, LeadsTo, Pushed, Turns, behind, call_part, fed, pdu_part, said_of, stream_text}
use Rattle.wire_rows.specs.declared.feeding.Stream.{Stream}
use Rattle.wire_rows.specs.declared.feeding.Turn.TheVariants.{Took, Waits, Ended}
use Rattle.rpc_pdu.proofs.Writable.{sized}

-- ---- more bytes change nothing

some_stays : (bytes tail : List ℕ) (x : Pdu × ℕ) → AreBytes bytes → decoded bytes ≡ Ok (Some x) → decoded (bytes ++ tail) ≡ Ok (Some x)
some_stays bytes tail x are e =
    elim (stays bytes tail are) [
      | inl none ↦ let h : decoded bytes ≡ Ok None = none in absurd cc
      | inr same ↦ same ∙ e
    ]

bad_stays : (bytes tail : List ℕ) (bad : PduBad) → AreBytes bytes → decoded bytes ≡ Err bad → decoded (bytes ++ tail) ≡ Err bad
bad_stays bytes tail bad are e =
    elim (stays bytes tail are) [
      | inl none ↦ let h : decoded bytes ≡ Ok None = none in absurd cc
      | inr same ↦ same ∙ e
    ]

-- ---- one turn

-- where something is at the front
front_is : (turns : ℕ) (begun : Option Whole) (bytes : List ℕ) (found : Result (Option (Pdu × ℕ)) PduBad) → decoded bytes ≡ found → stream_text (suc turns) begun bytes ≡ said_of found begun bytes (stream_text turns)
front_is turns begun bytes found e = ap (λ d. said_of d begun bytes (stream_text turns)) e

some_turns : (n turns : ℕ) → n < turns → (left : ℕ) × (turns ≡ suc left)
some_turns n zero lt = absurd (omega arith)
some_turns n (suc left) lt = (left, refl)

pub took : (old new : Stream) (before now : List ℕ) → AreBytes old.splitter.rest → Turns Took old new before now
    → (said : List ℕ) × (now ≡ before ++ said) × LeadsTo old new said × AreBytes new.splitter.rest × (length new.splitter.rest < length old.splitter.rest)
took old new before now are (x, call, found, gave, rest, says) =
    let size = sized old.splitter.rest x.0 x.1 are found in
    let smaller : length new.splitter.rest < length old.splitter.rest = omega (arith, size.long, size.there, ap length rest, length-drop x.1 old.splitter.rest) in
    (pdu_part x ++ call_part call, says, leads, subst AreBytes (sym rest) (AreBytes-drop x.1 old.splitter.rest are), smaller)
  where
    leads : LeadsTo old new (pdu_part x ++ call_part call)
    leads tail turns lt =
        let (left, is) = some_turns (length (old.splitter.rest ++ tail)) turns lt in
        let size = sized old.splitter.rest x.0 x.1 are found in
        let same : drop x.1 (old.splitter.rest ++ tail) ≡ new.splitter.rest ++ tail = drop-append-le x.1 old.splitter.rest tail size.there ∙ ap (λ r. r ++ tail) (sym rest) in
        let fewer : length (new.splitter.rest ++ tail) < left =
        omega (arith, lt, is, size.long, size.there, ap length rest, length-drop x.1 old.splitter.rest, length-append old.splitter.rest tail, length-append new.splitter.rest tail) in (
          left,
          fewer,
          ap (λ t. stream_text t old.assembler (old.splitter.rest ++ tail)) is
              ∙ front_is left old.assembler (old.splitter.rest ++ tail) (Ok (Some x)) (some_stays old.splitter.rest tail x are found)
              ∙ ap (λ f. pdu_part x ++ behind f (λ after. stream_text left after (drop x.1 (old.splitter.rest ++ tail)))) gave
              ∙ ap (λ r. pdu_part x ++ (call_part call ++ stream_text left new.assembler r)) same
              ∙ sym (append_assoc (pdu_part x) (call_part call) (stream_text left new.assembler (new.splitter.rest ++ tail))),
        )

pub ended : (old new : Stream) (before now : List ℕ) → AreBytes old.splitter.rest → Turns Ended old new before now → (said : List ℕ) × (now ≡ before ++ said) × Closes old said
ended old new before now are (inl (bad, found, says)) = (
  bad_text bad,
  says,
  λ tail turns lt.
      let (left, is) = some_turns (length (old.splitter.rest ++ tail)) turns lt in
      ap (λ t. stream_text t old.assembler (old.splitter.rest ++ tail)) is
      ∙ front_is left old.assembler (old.splitter.rest ++ tail) (Err bad) (bad_stays old.splitter.rest tail bad are found),
)
ended old new before now are (inr (x, bad, found, refused, says)) = (
  pdu_part x ++ frag_bad_text bad,
  says,
  λ tail turns lt.
      let (left, is) = some_turns (length (old.splitter.rest ++ tail)) turns lt in
      ap (λ t. stream_text t old.assembler (old.splitter.rest ++ tail)) is
      ∙ front_is left old.assembler (old.splitter.rest ++ tail) (Ok (Some x)) (some_stays old.splitter.rest tail x are found)
      ∙ ap (λ f. pdu_part x ++ behind f (λ after. stream_text left after (drop x.1 (old.splitter.rest ++ tail)))) refused,
)

-- ---- turns one after the other

pub leads_nowhere : (s : Stream) → LeadsTo s s []
leads_nowhere s tail turns lt = (turns, lt, refl)

pub leads_on : (a b c : Stream) (one two : List ℕ) → LeadsTo a b one → LeadsTo b c two → LeadsTo a c (one ++ two)
leads_on a b c one two first second tail turns lt =
    let (left, fewer, is) = first tail turns lt in
    let (rest, less, then) = second tail left fewer in
    (rest, less, is ∙ ap (λ t. one ++ t) then ∙ sym (append_assoc one two (stream_text rest c.assembler (c.splitter.rest ++ tail))))

pub leads_to_close : (a b : Stream) (one two : List ℕ) → LeadsTo a b one → Closes b two → Closes a (one ++ two)
leads_to_close a b one two first closes tail turns lt =
    let (left, fewer, is) = first tail turns lt in
    is ∙ ap (λ t. one ++ t) (closes tail left fewer)

-- ---- pieces one after the other

are_both : (xs ys : List ℕ) → AreBytes xs → AreBytes ys → AreBytes (xs ++ ys)
are_both [] ys are more i = more i
are_both (x ∷ xs) ys are more zero = are 0
are_both (x ∷ xs) ys are more (suc i) = are_both xs ys (λ k. are (suc k)) more i

pub pushed_bytes : (old new : Stream) (piece : List ℕ) → AreBytes old.splitter.rest → Pushed old new piece → AreBytes new.splitter.rest
pushed_bytes old new piece are pushed = subst AreBytes (sym pushed.rest) (are_both old.splitter.rest piece are pushed.bytes)

-- whatever comes behind, what was said of what came and what will be said from here on is what is said of it all
abbrev pub Told : List ℕ → Stream → List ℕ → Type 0
Told came s said =
    (tail : List ℕ) → (left : ℕ) × (length (s.splitter.rest ++ tail) < left)
    × (stream_text (suc (length (came ++ tail))) None (came ++ tail) ≡ said ++ stream_text left s.assembler (s.splitter.rest ++ tail))

pub nothing_there : decoded [] ≡ Ok None
unfolding decoded
nothing_there = refl

pub no_bytes : AreBytes []
no_bytes i = lit< tt

-- nothing has come
pub told_nothing : (s : Stream) (said : List ℕ) → IsFresh s → said ≡ [] → Told [] s said
told_nothing s said fresh none tail = (
  suc (length tail),
  omega (arith, ap (λ r. length (r ++ tail)) fresh.rest),
  λ i. sym none i ++ stream_text (suc (length tail)) (sym fresh.begun i) (sym fresh.rest i ++ tail),
)

-- what comes behind a piece
piece_is : (old new : Stream) (piece tail : List ℕ) → Pushed old new piece → new.splitter.rest ++ tail ≡ old.splitter.rest ++ (piece ++ tail)
piece_is old new piece tail pushed = ap (λ r. r ++ tail) pushed.rest ∙ append_assoc old.splitter.rest piece tail

pub told_more : (came said piece now more : List ℕ) (a b c : Stream) → Told came a said → Pushed a b piece → LeadsTo b c more → now ≡ said ++ more → Told (came ++ piece) c now
told_more came said piece now more a b c told pushed leads says tail =
    let (left, fewer, is) = told (piece ++ tail) in
    let same = piece_is a b piece tail pushed in
    let (rest, less, then) = leads tail left (omega (arith, fewer, ap length same)) in (
      rest,
      less,
      ap (λ bytes. stream_text (suc (length bytes)) None bytes) (append_assoc came piece tail)
          ∙ is
          ∙ (λ i. said ++ stream_text left (sym pushed.begun i) (sym same i))
          ∙ ap (λ t. said ++ t) then
          ∙ sym (append_assoc said more (stream_text rest c.assembler (c.splitter.rest ++ tail)))
          ∙ ap (λ t. t ++ stream_text rest c.assembler (c.splitter.rest ++ tail)) (sym says),
    )

pub told_all : (came said piece now more tail all : List ℕ) (a b : Stream) → Told came a said → Pushed a b piece → Closes b more → now ≡ said ++ more → all ≡ (came ++ piece) ++ tail → now ≡ stream_text (suc (length all)) None all
told_all came said piece now more tail all a b told pushed closes says whole_is =
    let (left, fewer, is) = told (piece ++ tail) in
    let same = piece_is a b piece tail pushed in
    let said_is = closes tail left (omega (arith, fewer, ap length same)) in
    says
    ∙ ap (λ t. said ++ t) (sym said_is)
    ∙ (λ i. said ++ stream_text left (pushed.begun i) (same i))
    ∙ sym is
    ∙ ap (λ bytes. stream_text (suc (length bytes)) None bytes) (sym (append_assoc came piece tail) ∙ sym whole_is)

-- no piece is left, and no PDU
pub told_rest : (came said all : List ℕ) (s : Stream) → Told came s said → decoded s.splitter.rest ≡ Ok None → came ≡ all → said ++ (codes "rest " ++ decimal (length s.splitter.rest)) ≡ stream_text (suc (length all)) None all
told_rest came said all s told none whole_is =
    let (left, fewer, is) = told [] in
    let (turns, more) = some_turns (length (s.splitter.rest ++ [])) left fewer in
    let end : s.splitter.rest ++ [] ≡ s.splitter.rest = append-nil s.splitter.rest in
    ap (λ d. said ++ said_of d s.assembler s.splitter.rest (stream_text turns)) (sym none)
    ∙ (λ i. said ++ stream_text (suc turns) s.assembler (sym end i))
    ∙ ap (λ t. said ++ stream_text t s.assembler (s.splitter.rest ++ [])) (sym more)
    ∙ sym is
    ∙ ap (λ bytes. stream_text (suc (length bytes)) None bytes) (append-nil came ∙ whole_is)

-- ---- the pieces up to one, and those behind it

whole-append : (xs ys : List (List ℕ)) → whole (xs ++ ys) ≡ whole xs ++ whole ys
whole-append [] ys = refl
whole-append (x ∷ xs) ys = ap (λ t. x ++ t) (whole-append xs ys) ∙ sym (append_assoc x (whole xs) (whole ys))

pub whole_more : (pieces : List (List ℕ)) (i : ℕ) (piece : List ℕ) → i < length pieces → piece ≡ get_or pieces i piece → whole (take (i + 1) pieces) ≡ whole (take i pieces) ++ piece
whole_more pieces i piece within is =
    ap whole (take_more pieces i piece within ∙ ap (λ p. take i pieces ++ p ∷ []) (sym is))
    ∙ whole-append (take i pieces) (piece ∷ [])
    ∙ ap (λ t. whole (take i pieces) ++ t) (append-nil piece)

pub whole_cut : (pieces : List (List ℕ)) (i : ℕ) (piece : List ℕ) → i < length pieces → piece ≡ get_or pieces i piece → whole pieces ≡ (whole (take i pieces) ++ piece) ++ whole (drop (i + 1) pieces)
whole_cut pieces i piece within is =
    ap whole (sym (take-append-drop (i + 1) pieces))
    ∙ whole-append (take (i + 1) pieces) (drop (i + 1) pieces)
    ∙ ap (λ t. t ++ whole (drop (i + 1) pieces)) (whole_more pieces i piece within is)
