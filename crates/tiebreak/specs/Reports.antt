-- The text of an outcome, line by line. Assumes nothing.
use Rattle.std.specs.Prelude.{◌≡◌, ◌↔◌, ℕ, ◌^◌, ◌<◌, Bool, All, Contains, if◌then◌else◌, List, [], ◌∷◌, ◌++◌, codes, decimal, nat_lt}
use Rattle.std.specs.List.{flat_map}
use Rattle.std.specs.Str.Lines.{lines}
use Rattle.ballots.specs.Ballots.{unranked}
use Rattle.ballots.specs.Format.{candidates_in, ballots_in, ballots_of}
use Rattle.ballots.specs.Sets.{holds, members, room}
use Rattle.pairwise.specs.Counts.{win}
use Rattle.pairwise.specs.Grids.{number_for}
use Rattle.pairwise.specs.Pairs.{pairs}
use Rattle.paths.specs.Paths.{below, Strongest}
use Rattle.best.specs.Best.{Ahead, Best}
use Rattle.best.specs.Order.{row_of, FullOrder}
use Rattle.tiebreak.specs.declared.outcome.Outcome.{Outcome}
use Rattle.tiebreak.specs.Draws.{drawn_ballots, before_by_ballots}

-- a number after a space
abbrev pub number_text : ℕ → List ℕ
number_text n = codes " " ++ decimal n

-- numbers, each after a space
abbrev pub numbers_text : List ℕ → List ℕ
numbers_text ns = flat_map number_text ns

-- how many ballots there are, and who is among the best
abbrev pub best_line : ℕ → List ℕ → List ℕ
best_line ballots best = (codes "papers" ++ numbers_text (ballots ∷ [])) ++ (codes " best" ++ numbers_text best)

-- x is ahead of y, with the strengths there and back
abbrev pub ahead_line : ℕ → ℕ → ℕ → ℕ → List ℕ
ahead_line x y there back = codes "ahead" ++ numbers_text (x ∷ y ∷ there ∷ back ∷ [])

-- the candidates in their full order
abbrev pub order_line : List ℕ → List ℕ
order_line places = codes "order" ++ numbers_text places

-- the line of a pair, where by the strengths s the first is ahead of the second
abbrev pub ahead_lines : (ℕ → ℕ → ℕ) → ℕ × ℕ → List (List ℕ)
ahead_lines s (x, y) = if nat_lt (s y x) (s x y) then ahead_line x y (s x y) (s y x) ∷ [] else []

-- a text of these lines
abbrev pub text_of_lines : List (List ℕ) → List ℕ
text_of_lines lines = flat_map (λ line. line ++ codes "\n") lines

-- the lines of the report
abbrev pub lines_of : Outcome → List (List ℕ)
lines_of o =
    best_line o.ballots (members (holds o.best) room)
    ∷ (flat_map (ahead_lines (number_for o.strengths)) (pairs o.strengths.candidates)
    ++ order_line (row_of o.order) ∷ [])

-- the report of an outcome
abbrev pub report_of : Outcome → List ℕ
report_of o = text_of_lines (lines_of o)

-- x is ahead of y, and the strongest paths there and back have these strengths
pub record IsAheadBy (w : ℕ → ℕ → ℕ) (v x y there back : ℕ) : Type 0 where
  pub ahead : Ahead w (below v) x y
  pub strength_there : Strongest w v x y there
  pub strength_back : Strongest w v y x back

-- the line is one that tells of a pair
abbrev pub IsAheadLine : List ℕ → Type 0
IsAheadLine line = (x : ℕ) × (y : ℕ) × (there : ℕ) × (back : ℕ) × (line ≡ ahead_line x y there back)

-- what the text says of so many ballots and of v candidates with the wins w, line by line
pub record Says (ballots : ℕ) (w : ℕ → ℕ → ℕ) (v : ℕ) (before : ℕ → ℕ → Bool) (text : List ℕ) : Type 0 where
  -- a line for the best comes first, then those for pairs, and a line for the order comes last
  pub best_listed : List ℕ
  pub between : List (List ℕ)
  pub order_listed : List ℕ
  pub all : lines text ≡ best_line ballots best_listed ∷ (between ++ order_line order_listed ∷ [])
  pub pairs : All IsAheadLine between
  -- listed are the best, and nobody else
  pub best : (x : ℕ) → Contains best_listed x ↔ Best w (below v) x
  -- the line of a pair stands there exactly if the first is ahead of the second, with the strengths there and back
  pub ahead : (x y there back : ℕ) → All (λ n. n < 2 ^ 64) (x ∷ y ∷ there ∷ back ∷ []) →
      Contains (lines text) (ahead_line x y there back) ↔ IsAheadBy w v x y there back
  -- and the order is the full one
  pub order : FullOrder (Ahead w (below v)) before (below v) order_listed

-- the text is the report of what these bytes come to with this draw
abbrev pub ReportOf : List ℕ → List ℕ → List ℕ → Type 0
ReportOf bytes draw text =
    Says (ballots_in bytes) (win unranked (ballots_of bytes)) (candidates_in bytes)
    (before_by_ballots unranked (drawn_ballots bytes draw)) text
