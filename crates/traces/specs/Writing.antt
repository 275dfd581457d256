-- How a pair is made: the bytes of a line that are kept, byte by byte, and characters that are put one after the other. Nobody has to believe this: by
-- `pair_is` it comes to `pair_line`. Assumes nothing.
use Rattle.std.specs.Prelude.{cond, List, [], ◌∷◌, ◌++◌, ℕ, ◌+◌, eqb, ltb, take, set, replicate}
use Rattle.lines.specs.Texts.{line_feed, one_more}
use Rattle.steps.specs.declared.Answer.{Answer}
use Rattle.answers.specs.Answers.{write_answer}
use Rattle.traces.specs.declared.CutLine.{CutLine}
use Rattle.traces.specs.declared.Pair.{Pair}
use Rattle.traces.specs.Shown.{most_shown, shown_bytes, shown_more}
use Rattle.traces.specs.Pairs.{blank}

-- bytes in turn, whatever is done with each
abbrev pub over_each : {A : Type 0} → (A → ℕ → A) → A → List ℕ → A
over_each f a [] = a
over_each f a (b ∷ bs) = over_each f (f a b) bs

-- ---- what is kept of a line

abbrev pub nothing_kept : CutLine
nothing_kept = record { held = replicate most_shown 0; fill = 0; more = 0 }

-- one byte more: kept where there is room, and else counted
unfoldable pub kept_with : CutLine → ℕ → CutLine
kept_with k b =
    cond (ltb k.fill most_shown) (record { held = set k.held k.fill b; fill = k.fill + 1; more = k.more })
    (record { held = k.held; fill = k.fill; more = one_more k.more })

-- a line feed begins the next line
unfoldable pub kept_after : CutLine → ℕ → CutLine
kept_after k b = cond (eqb b line_feed) nothing_kept (kept_with k b)

abbrev pub kept_over : CutLine → List ℕ → CutLine
kept_over k bs = over_each kept_after k bs

-- the bytes that are kept
abbrev pub held_in : CutLine → List ℕ
held_in k = take k.fill k.held

-- ---- characters, one after the other

-- 40 bytes of four characters, \+ and 20 digits, a blank, an answer of 18 and a line feed
abbrev pub pair_room : ℕ
pair_room = 202

abbrev pub no_pair : Pair
no_pair = record { text = replicate pair_room 0; fill = 0 }

-- its characters
abbrev pub text_in : Pair → List ℕ
text_in p = take p.fill p.text

unfoldable pub put_of : Pair → ℕ → Pair
put_of p b = cond (ltb p.fill pair_room) (record { text = set p.text p.fill b; fill = p.fill + 1 }) p

abbrev pub put_all : Pair → List ℕ → Pair
put_all p bs = over_each put_of p bs

-- the pair of what is kept of a line, and an answer
abbrev pub pair_made : CutLine → Answer → Pair
pair_made k a = put_all no_pair (shown_bytes (held_in k) ++ (shown_more k.more ++ (blank ∷ write_answer a ++ (line_feed ∷ []))))
