-- The figures as worked out from the whole history. Nothing here reads a tally, a square or a state. Assumes nothing.
use Rattle.std.specs.Prelude.{ℕ, ◌+◌, ◌*◌, Bool, false, cond, not, ◌&&◌, ◌||◌, List, [], ◌∷◌, eqb, length}
use Rattle.tally.specs.declared.Figures.{Figures}

-- a done event; a history has the latest first
pub data Happening : Type 0 where
  asked : ℕ → Happening
  granted : ℕ → Happening
  released : ℕ → Happening

abbrev pub History : Type 0
History = List Happening

-- a has asked and was not granted since
unfoldable pub pending : ℕ → History → Bool
pending a [] = false
pending a (asked b ∷ h) = eqb a b || pending a h
pending a (granted w ∷ h) = not (eqb a w) && pending a h
pending a (released b ∷ h) = pending a h

-- the grants to others since a's last request
unfoldable pub others_since : ℕ → History → ℕ
others_since a [] = 0
others_since a (asked b ∷ h) = cond (eqb a b) 0 (others_since a h)
others_since a (granted w ∷ h) = cond (eqb a w) (others_since a h) (others_since a h + 1)
others_since a (released b ∷ h) = others_since a h

-- a's waits, one for each of its grants: the grants to others between its request and its grant
unfoldable pub waits_of : ℕ → History → List ℕ
waits_of a [] = []
waits_of a (asked b ∷ h) = waits_of a h
waits_of a (granted w ∷ h) = cond (eqb a w) (others_since a h ∷ waits_of a h) (waits_of a h)
waits_of a (released b ∷ h) = waits_of a h

-- the grants to c that left a waiting
unfoldable pub left_waiting : ℕ → ℕ → History → ℕ
left_waiting a c [] = 0
left_waiting a c (asked b ∷ h) = left_waiting a c h
left_waiting a c (granted w ∷ h) = cond (eqb c w && (not (eqb a w) && pending a h)) (left_waiting a c h + 1) (left_waiting a c h)
left_waiting a c (released b ∷ h) = left_waiting a c h

-- a's requests
unfoldable pub requests_of : ℕ → History → ℕ
requests_of a [] = 0
requests_of a (asked b ∷ h) = cond (eqb a b) (requests_of a h + 1) (requests_of a h)
requests_of a (granted w ∷ h) = requests_of a h
requests_of a (released b ∷ h) = requests_of a h

-- added up, and their squares added up
unfoldable pub total : List ℕ → ℕ
total [] = 0
total (x ∷ xs) = total xs + x

unfoldable pub total_squares : List ℕ → ℕ
total_squares [] = 0
total_squares (x ∷ xs) = total_squares xs + x * x

-- the running wait: 0 but for a card that waits
abbrev pub running_of : ℕ → History → ℕ
running_of a h = cond (pending a h) (others_since a h) 0

-- a's figures: grants, the sum of its waits, and the sum of their squares
abbrev pub figures_from : ℕ → History → Figures
figures_from a h =
    record { grants = length (waits_of a h); sum = total (waits_of a h); squares = total_squares (waits_of a h); running = running_of a h }
