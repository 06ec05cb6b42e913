-- What a call is cut into are its fragments.
use Rattle.std.proofs.Common.{◌≡◌, ℕ, ◌<◌, Bool, not, true, false, List, [], ◌∷◌, ◌++◌, refl, sym, ap, subst, ◌∙◌, append_assoc, drop, length, map, take, eq-eqb}
use Rattle.std.proofs.lemmas.List.{take-append-drop}
use Rattle.rpc_pdu.specs.declared.pdu.Pdu.{Pdu}
use Rattle.rpc_frag.specs.declared.fragment.Fragment.{Fragment}
use Rattle.rpc_frag.specs.declared.fragment.Whole.{Whole}
use Rattle.rpc_frag.specs.Fragments.{IsCut, flags_of, fragment_of, is_first, is_last, is_same, part}
use Rattle.rpc_frag.specs.Assembling.{AreParts, CutsGiveTheirCall, HasItsOpnum}
use Rattle.rpc_frag.proofs.Gathering.{fragments_give_their_call}

-- ---- the loop

-- the first fragments, and what the rest is cut into
pub goes_on : (w : Whole) (response : Bool) (size : ℕ) (first : Bool) (rest : List ℕ) (p : Pdu) (ps : List Pdu) → size < length rest → p ≡ part w response (flags_of first false) (length rest) (take size rest)
    → IsCut w response size false (drop size rest) ps → IsCut w response size first rest (p ∷ ps)
goes_on w response size first rest p [] lt is later = absurd later
goes_on w response size first rest p (q ∷ ps) lt is later = (lt, is, later)

-- ---- the fragments

first_of : (first last : Bool) → (w : Whole) (response : Bool) (hint : ℕ) (stub : List ℕ) → is_first (fragment_of (part w response (flags_of first last) hint stub)) ≡ first
first_of true true w true hint stub = refl
first_of true true w false hint stub = refl
first_of true false w true hint stub = refl
first_of true false w false hint stub = refl
first_of false true w true hint stub = refl
first_of false true w false hint stub = refl
first_of false false w true hint stub = refl
first_of false false w false hint stub = refl

last_of : (first last : Bool) → (w : Whole) (response : Bool) (hint : ℕ) (stub : List ℕ) → is_last (fragment_of (part w response (flags_of first last) hint stub)) ≡ last
last_of true true w true hint stub = refl
last_of true true w false hint stub = refl
last_of true false w true hint stub = refl
last_of true false w false hint stub = refl
last_of false true w true hint stub = refl
last_of false true w false hint stub = refl
last_of false false w true hint stub = refl
last_of false false w false hint stub = refl

same_of : (w : Whole) (response : Bool) (flags hint : ℕ) (stub : List ℕ) → HasItsOpnum response w → is_same w (fragment_of (part w response flags hint stub)) ≡ true
same_of w true flags hint stub own = rw (eq-eqb w.call w.call refl, eq-eqb w.context w.context refl, eq-eqb w.opnum 0 own) refl
same_of w false flags hint stub own = rw (eq-eqb w.call w.call refl, eq-eqb w.context w.context refl, eq-eqb w.opnum w.opnum refl) refl

stub_of : (w : Whole) (response : Bool) (flags hint : ℕ) (stub : List ℕ) → (fragment_of (part w response flags hint stub)).stub ≡ stub
stub_of w true flags hint stub = refl
stub_of w false flags hint stub = refl

parts_of : (w : Whole) (response : Bool) (size : ℕ) (begun : Bool) (front rest : List ℕ) (ps : List Pdu) → HasItsOpnum response w → front ++ rest ≡ w.stub → IsCut w response size (not begun) rest ps
    → AreParts w begun front (map fragment_of ps)
parts_of w response size begun front rest [] own all cut = absurd cut
parts_of w response size begun front rest (p ∷ []) own all cut =
    let at : Fragment → List Fragment = λ f. f ∷ [] in
    subst (λ (q : Pdu). AreParts w begun front (at (fragment_of q))) (sym cut.1) (
      first_of (not begun) true w response (length rest) rest,
      same_of w response (flags_of (not begun) true) (length rest) rest own,
      last_of (not begun) true w response (length rest) rest,
      ap (λ (stub : List ℕ). front ++ stub) (stub_of w response (flags_of (not begun) true) (length rest) rest) ∙ all,
    )
parts_of w response size begun front rest (p ∷ q ∷ ps) own all cut =
    let stub : List ℕ = take size rest in
    let here : Pdu = part w response (flags_of (not begun) false) (length rest) stub in
    let own_stub : (fragment_of here).stub ≡ stub = stub_of w response (flags_of (not begun) false) (length rest) stub in
    let whole : (front ++ stub) ++ drop size rest ≡ w.stub = append_assoc front stub (drop size rest) ∙ ap (λ (r : List ℕ). front ++ r) (take-append-drop size rest) ∙ all in
    let later = parts_of w response size true (front ++ stub) (drop size rest) (q ∷ ps) own whole cut.2 in
    subst (λ (x : Pdu). AreParts w begun front (fragment_of x ∷ fragment_of q ∷ map fragment_of ps)) (sym cut.1) (
      first_of (not begun) false w response (length rest) stub,
      same_of w response (flags_of (not begun) false) (length rest) stub own,
      last_of (not begun) false w response (length rest) stub,
      subst (λ (s : List ℕ). AreParts w true (front ++ s) (fragment_of q ∷ map fragment_of ps)) (sym own_stub) later,
    )

pub cuts_give_their_call : CutsGiveTheirCall
cuts_give_their_call w response size parts short own cut = fragments_give_their_call w (map fragment_of parts) short (parts_of w response size false [] w.stub parts own refl cut)
