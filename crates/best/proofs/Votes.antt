-- Lists of ballots compared: their counts, and the wins that follow.
use Rattle.std.proofs.Common.{◌≡◌, ℕ, zero, suc, ◌<◌, ◌≤◌, Bool, true, List, [], ◌∷◌, length, get_or, set, refl, arith}
use Rattle.std.specs.Prelude.{All, if◌then◌else◌}
use Rattle.std.specs.List.{AllZip}
use Rattle.std.proofs.lemmas.Bool.Decides.{nat_tests}
use Rattle.ballots.specs.Ballots.{over}
use Rattle.pairwise.specs.Counts.{count, win}
use Rattle.best.specs.Laws.{WinsAgainst}
use Rattle.best.specs.Elections.{WinsByBallots}

-- what holds ballot by ballot, read from after to before, and weakened
pub zip_back :
    {R S : List ℕ → List ℕ → Type 0} → ((p q : List ℕ) → R p q → S q p) →
    (ps qs : List (List ℕ)) → AllZip R ps qs → AllZip S qs ps
zip_back f [] [] r = tt
zip_back f [] (q ∷ qs) r = absurd r
zip_back f (p ∷ ps) [] r = absurd r
zip_back f (p ∷ ps) (q ∷ qs) (r, rs) = (f p q r, zip_back f ps qs rs)

pub zip_weaken :
    {R S : List ℕ → List ℕ → Type 0} → ((p q : List ℕ) → R p q → S p q) →
    (ps qs : List (List ℕ)) → AllZip R ps qs → AllZip S ps qs
zip_weaken {R} {S} f ps qs r =
    zip_back {R = λ q p. S p q} {S = S} (λ q p s. s) qs ps (zip_back {R = R} {S = λ q p. S p q} f ps qs r)

-- each ballot with itself
pub zip_itself : (R : List ℕ → List ℕ → Type 0) (ps : List (List ℕ)) → All (λ p. R p p) ps → AllZip R ps ps
zip_itself R [] f = tt
zip_itself R (p ∷ ps) f = (f 0 [] (omega arith), zip_itself R ps (λ k d l. f (suc k) d (omega arith)))

-- each ballot with itself but one
pub zip_set : (R : List ℕ → List ℕ → Type 0) → ((p : List ℕ) → R p p) → (ps : List (List ℕ)) (j : ℕ) (q : List ℕ) →
    j < length ps → R (get_or ps j []) q → AllZip R ps (set ps j q)
zip_set R same [] j q l r = absurd (let f : ⊥ = omega arith in f)
zip_set R same (p ∷ ps) zero q l r = (r, zip_itself R ps (λ k d h. same _))
zip_set R same (p ∷ ps) (suc j) q l r = (same p, zip_set R same ps j q (omega arith) r)

one_le : (a b : Bool) → (a ≡ true → b ≡ true) → (if a then 1 else 0) ≤ (if b then 1 else 0)
one_le a b f = grind arith

-- where each ballot that puts x over y goes with one that puts z over u, there are at least as many of those
pub count_le :
    (last x y z u : ℕ) (ps qs : List (List ℕ)) →
    AllZip (λ p q. over last p x y ≡ true → over last q z u ≡ true) ps qs →
    count last ps x y ≤ count last qs z u
unfolding count
count_le last x y z u [] [] r = omega arith
count_le last x y z u [] (q ∷ qs) r = absurd r
count_le last x y z u (p ∷ ps) [] r = absurd r
count_le last x y z u (p ∷ ps) (q ∷ qs) (r, rs) =
    omega (arith, one_le (over last p x y) (over last q z u) r, count_le last x y z u ps qs rs)

-- ballots that say the same give the same count
pub count_same :
    (last x y z u : ℕ) (ps qs : List (List ℕ)) →
    AllZip (λ p q. over last p x y ≡ over last q z u) ps qs →
    count last ps x y ≡ count last qs z u
unfolding count
count_same last x y z u [] [] r = refl
count_same last x y z u [] (q ∷ qs) r = absurd r
count_same last x y z u (p ∷ ps) [] r = absurd r
count_same last x y z u (p ∷ ps) (q ∷ qs) (r, rs) = rw (r, count_same last x y z u ps qs rs) refl

-- all ballots put x over y exactly if as many do as there are
count_below : (last x y : ℕ) (ps : List (List ℕ)) → count last ps x y ≤ length ps
unfolding count
count_below last x y [] = omega arith
count_below last x y (p ∷ ps) = let i = count_below last x y ps in grind (arith, nat_tests)

pub every_count :
    (last x y : ℕ) (ps : List (List ℕ)) → All (λ p. over last p x y ≡ true) ps → length ps ≤ count last ps x y
unfolding count
every_count last x y [] f = omega arith
every_count last x y (p ∷ ps) f =
    let i = every_count last x y ps (λ k d l. f (suc k) d (omega arith)) in
    let e : over last p x y ≡ true = f 0 [] (omega arith) in
    grind (arith, nat_tests)

pub count_every :
    (last x y : ℕ) (ps : List (List ℕ)) → length ps ≤ count last ps x y → All (λ p. over last p x y ≡ true) ps
unfolding count
count_every last x y [] h k d l = absurd (omega arith)
count_every last x y (p ∷ ps) h zero d l = let i = count_below last x y ps in grind (arith, nat_tests)
count_every last x y (p ∷ ps) h (suc k) d l =
    count_every last x y ps (let i = count_below last x y ps in grind (arith, nat_tests)) k d (omega arith)

-- more for and fewer against is no weaker a win
pub win_le :
    (last x y z u : ℕ) (ps qs : List (List ℕ)) →
    count last ps x y ≤ count last qs z u → count last qs u z ≤ count last ps y x → win last ps x y ≤ win last qs z u
unfolding win
win_le last x y z u ps qs f g = grind (arith, nat_tests)

pub win_same :
    (last x y z u : ℕ) (ps qs : List (List ℕ)) →
    count last ps x y ≡ count last qs z u → count last ps y x ≡ count last qs u z → win last ps x y ≡ win last qs z u
unfolding win
win_same last x y z u ps qs e f = rw (e, f)

-- a win in the ballots is a win, as strong as there are ballots for it, and no win is stronger
pub win_wins : (last x y : ℕ) (ps : List (List ℕ)) → WinsByBallots last ps x y → WinsAgainst (win last ps) x y
unfolding win
win_wins last x y ps h = grind (arith, nat_tests)

pub win_count : (last x y : ℕ) (ps : List (List ℕ)) → WinsByBallots last ps x y → win last ps x y ≡ count last ps x y
unfolding win
win_count last x y ps h = grind (arith, nat_tests)

pub win_below : (last x y : ℕ) (ps : List (List ℕ)) → win last ps x y ≤ count last ps x y
unfolding win
win_below last x y ps = grind (arith, nat_tests)
