-- Request A8, as statements about states and events: who is elected, and whom a release hands the bus. Assumes nothing.
use Rattle.std.specs.Prelude.{ℕ, Bool, true, false, ◌&&◌, List, [], ◌∷◌, ◌≡◌, eqb}
use Rattle.arbiter.specs.Arbitrate.{arbitrate_of}
use Rattle.arbiter.specs.Events.{handed_on, release_of}
use Rattle.arbiter.specs.State.{waits, is_elected, fresh_of}
use Rattle.state.specs.declared.Bus.TheVariants.{Free, Held, Elected}
use Rattle.state.specs.declared.RackState.{RackState}
use Rattle.cards.specs.declared.Table.{Table}
use Rattle.promises.specs.Runs.{Event, outcome_of, next, after, grants}

-- ---- an arbitration

-- an arbitration that is done on a free bus gives it to the winner
abbrev pub GrantsFree : Type 0
GrantsFree = (s : RackState) → s.bus ≡ Free → (arbitrate_of s).answer ≡ 0 → (arbitrate_of s).state.bus ≡ Held (arbitrate_of s).winner

-- one that is done on a held bus elects: the holder stays, and may itself be elected
abbrev pub Elects : Type 0
Elects =
    (s : RackState) (h : ℕ) → s.bus ≡ Held h → (arbitrate_of s).answer ≡ 0 → (arbitrate_of s).state.bus ≡ Elected h (arbitrate_of s).winner

-- ---- a release

-- a release that is done hands the bus to the elected card, or frees it, and the elected card, or else the holder, stays the last winner
abbrev pub HandsOn : Type 0
HandsOn =
    (s : RackState) (a : ℕ) → (release_of s a).answer ≡ 0
    → ((release_of s a).state.bus ≡ handed_on s.bus) × ((release_of s a).state.last ≡ s.last)

-- it is the holder's, and where a card is elected the bus is that card's and no other's
abbrev pub HandsToElected : Type 0
HandsToElected =
    (s : RackState) (h e a : ℕ) → s.bus ≡ Elected h e → (release_of s a).answer ≡ 0 → (a ≡ h) × ((release_of s a).state.bus ≡ Held e)

-- ---- between an election and that release

-- the event is a release that is done
abbrev pub is_release : RackState → Event → Bool
is_release s e = eqb e.letter 82 && eqb (outcome_of s e).answer 0

-- no event of the run is one
unfoldable pub NoRelease : RackState → List Event → Type 0
NoRelease s [] = Unit
NoRelease s (e ∷ es) = (is_release s e ≡ false) × NoRelease (next s e) es

-- holder and elected card stay what they are, and nobody else is elected or granted, whatever events come
abbrev pub ElectedStands : Type 0
ElectedStands =
    (s : RackState) (h e : ℕ) (during : List Event) → s.bus ≡ Elected h e → NoRelease s during
    → ((after s during).bus ≡ Elected h e) × (grants s during ≡ [])

-- from a fresh rack the elected card never waits: its request ended, and it cannot request before the bus is its own
abbrev pub ElectedIdle : Type 0
ElectedIdle =
    (t : Table) (before : List Event) (a : ℕ) → is_elected (after (fresh_of t) before).bus a ≡ true → waits (after (fresh_of t) before) a ≡ false
