-- Calls put together of their fragments.
use Rattle.std.specs.Prelude.{◌≡◌, ◌+◌, ◌≤◌, ◌||◌, ◌++◌, ℕ, Bool, List, [], ◌∷◌, Option, Some, None, Result, Ok, Err, length, map, nat_lt, not, false, true, if◌then◌else◌}
use Rattle.rpc_pdu.specs.declared.pdu.Pdu.{Pdu}
use Rattle.rpc_frag.specs.Fragments.{IsCut, fragment_of, is_first, is_last, is_same}
use Rattle.rpc_frag.specs.declared.fragment.Fragment.{Fragment}
use Rattle.rpc_frag.specs.declared.fragment.Whole.{Whole}
use Rattle.rpc_frag.specs.declared.refusal.FragBad.{FragBad}
use Rattle.rpc_frag.specs.declared.refusal.FragBad.TheVariants.{FragOrder, FragTooLong}
use Rattle.rpc_frag.specs.declared.refusal.FragError.{FragError}
use Rattle.rpc_frag.specs.declared.refusal.FragError.TheVariants as errors

-- go on, unless a fragment was refused
infixl 10 ◌>>=◌
abbrev pub ◌>>=◌ : {A B : Type 0} → Result A FragBad → (A → Result B FragBad) → Result B FragBad
(Ok x) >>= f = f x
(Err e) >>= f = Err e

-- a stub of so many bytes is not too long
abbrev pub within : ℕ → Result (Unit {0}) FragBad
within length = if nat_lt 8388608 length then Err (FragTooLong length) else Ok tt

-- what is begun with a first fragment
abbrev pub begin : Fragment → Result Whole FragBad
begin f =
    if not (is_first f) then Err FragOrder
    else within (length f.stub) >>= λ fits. Ok (record { call = f.call; context = f.context; opnum = f.opnum; stub = f.stub })

-- what is begun, with a further one: the order is judged before the length
abbrev pub extended : Whole → Fragment → Result Whole FragBad
extended w f =
    if is_first f || not (is_same w f) then Err FragOrder
    else within (length w.stub + length f.stub) >>= λ fits. Ok (record { call = w.call; context = w.context; opnum = w.opnum; stub = w.stub ++ f.stub })

abbrev pub joined : Option Whole → Fragment → Result Whole FragBad
joined None f = begin f
joined (Some w) f = extended w f

-- the last fragment gives the call; any other leaves it begun
abbrev pub told : Bool → Whole → Option Whole × Option Whole
told true w = (Some w, None)
told false w = (None, Some w)

-- the answer, and what is begun behind it
abbrev pub feed_of : Option Whole → Fragment → Result (Option Whole × Option Whole) FragBad
feed_of begun f = joined begun f >>= λ w. Ok (told (is_last f) w)

-- the refusal is right, unless memory ran out
abbrev pub FailsOrMemory : {Y : Type 0} → FragError → Result Y FragBad → Type 0
FailsOrMemory errors.Memory answer = Unit {0}
FailsOrMemory (errors.Bad bad) answer = answer ≡ Err bad

abbrev pub Joins : Result Whole FragError → Result Whole FragBad → Type 0
Joins (Ok w) answer = answer ≡ Ok w
Joins (Err e) answer = FailsOrMemory e answer

-- a call of `feed` that left this begun: nothing after a refusal
abbrev pub Feeds : Result (Option Whole) FragError → Option Whole → Result (Option Whole × Option Whole) FragBad → Type 0
Feeds (Ok answer) begun step = step ≡ Ok (answer, begun)
Feeds (Err e) begun step = (begun ≡ None) × FailsOrMemory e step

-- ---- histories

abbrev pub answered : Option Whole → List Whole → List Whole
answered None ws = ws
answered (Some w) ws = w ∷ ws

-- fragments are fed one after the other: the calls that were given, and what is begun
abbrev pub run : Option Whole → List Fragment → Result (List Whole × Option Whole) FragBad
run begun [] = Ok ([], begun)
run begun (f ∷ fs) = feed_of begun f >>= λ x. run x.1 fs >>= λ r. Ok (answered x.0 r.0, r.1)

-- the fragments of a call, of whose stub these bytes have come before them
abbrev pub AreParts : Whole → Bool → List ℕ → List Fragment → Type 0
AreParts w begun front [] = ⊥
AreParts w begun front (f ∷ []) = (is_first f ≡ not begun) × (is_same w f ≡ true) × (is_last f ≡ true) × (front ++ f.stub ≡ w.stub)
AreParts w begun front (f ∷ g ∷ fs) = (is_first f ≡ not begun) × (is_same w f ≡ true) × (is_last f ≡ false) × AreParts w true (front ++ f.stub) (g ∷ fs)

-- the fragments of a call give that call, and leave nothing begun
abbrev pub FragmentsGiveTheirCall : Type 0
FragmentsGiveTheirCall = (w : Whole) (fs : List Fragment) → length w.stub ≤ 8388608 → AreParts w false [] fs → run None fs ≡ Ok (w ∷ [], None)

-- fragments that give one call, and leave nothing begun, are that call's
abbrev pub GivenForItsFragments : Type 0
GivenForItsFragments = (w : Whole) (fs : List Fragment) → run None fs ≡ Ok (w ∷ [], None) → (length w.stub ≤ 8388608) × AreParts w false [] fs

-- an answer has no opnum
abbrev pub HasItsOpnum : Bool → Whole → Type 0
HasItsOpnum true w = w.opnum ≡ 0
HasItsOpnum false w = Unit {0}

-- what a call is cut into gives that call
abbrev pub CutsGiveTheirCall : Type 0
CutsGiveTheirCall =
    (w : Whole) (response : Bool) (size : ℕ) (parts : List Pdu) → length w.stub ≤ 8388608 → HasItsOpnum response w → IsCut w response size true w.stub parts → run None (map fragment_of parts) ≡ Ok (w ∷ [], None)
