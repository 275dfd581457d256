-- Times as 01 has them: pairs (p, l), both 0 to 65,535, ordered by p and then by l. Assumes nothing.
use Rattle.std.specs.Prelude.{Bool, cond, ◌&&◌, ◌||◌, ℕ, ◌+◌, eqb, ltb, leb, Option, Some, None}
use Rattle.clock.specs.declared.Time.{Time}

-- where terms, wall clocks, p and l end
abbrev pub limit : ℕ
limit = 65535

abbrev pub zero_time : Time
zero_time = record { p = 0; l = 0 }

-- s comes before t: by p, and then by l
unfoldable pub is_before : Time → Time → Bool
is_before s t = ltb s.p t.p || (eqb s.p t.p && ltb s.l t.l)

unfoldable pub same_time : Time → Time → Bool
same_time s t = eqb s.p t.p && eqb s.l t.l

-- the later of both
unfoldable pub later_of : Time → Time → Time
later_of s t = cond (is_before s t) t s

-- where the cluster time's p is at least the wall clock, l grows by 1 if it can; otherwise it becomes (wall clock, 0); none where l
-- would have to pass its limit
unfoldable pub tick_of : ℕ → Time → Option Time
tick_of wall t =
    cond (leb wall t.p) (cond (ltb t.l limit) (Some (record { p = t.p; l = t.l + 1 })) None)
    (Some (record { p = wall; l = 0 }))
