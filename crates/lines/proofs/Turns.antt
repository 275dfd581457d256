-- What is done with an input turn by turn: a law for each way that a read can answer, and what all turns come to. Assumes nothing.
use mathlib.Core.Path.{◌≡◌, refl, sym, ap, ◌∙◌}
use mathlib.Core.Bool.{Bool, true, false, cond}
use mathlib.Core.List.{List, [], ◌∷◌, ◌++◌}
use Prim.Native.Nat.{ℕ, ◌+◌, min}
use native.Mathlib.Omega.{arith}
use lib.Dec.{eqb}
use lib.ListN.{length, take, length-append}
use borrow.Author.Tests.{ne_eqb}
use Rattle.std.specs.Prelude.{Option, Some, None, Err}
use Rattle.std.proofs.lemmas.List.{take_min}
use Rattle.lines.specs.declared.Broke.TheVariants.{More, CannotRead, CannotWrite}
use Rattle.lines.specs.Texts.{together}
use Rattle.lines.specs.Turns.{End, all_read, given, closed_by, end_of, last_end, most_turns, over_pieces, TurnsBy, DrainsBy}

-- no turn ends an input for want of turns
never_more : (got : Option ℕ) (wrote : Bool) → end_of got wrote ≡ Some (Err More) → ⊥
unfolding end_of
never_more None wrote e = cc
never_more (Some n) wrote e = go (eqb n 0) wrote e
  where
    go : (z w : Bool) → cond z (Some all_read) (cond w None (Some (Err CannotWrite))) ≡ Some (Err More) → ⊥
    go true w e = cc
    go false true e = cc
    go false false e = cc

-- what writes nothing ends as if all had been written
pub ends_unwritten : (got : Option ℕ) (wrote : Bool) (e : End) → e ≡ last_end got wrote → (e ≡ Err CannotWrite → ⊥) → e ≡ last_end got true
unfolding end_of
ends_unwritten got true e p h = p
ends_unwritten None false e p h = p
ends_unwritten (Some n) false e p h = go (eqb n 0) refl
  where
    go : (z : Bool) → eqb n 0 ≡ z → e ≡ last_end (Some n) true
    go true k = p ∙ rw k
    go false k = absurd (h (p ∙ rw k))

module _ {A : Type 0} (f : A → List ℕ → A) where
  -- where no bytes change nothing, and two pieces do what one does that has both, all pieces do what the text does that they are
  pub as_one : ((a : A) → f a [] ≡ a) → ((a : A) (x y : List ℕ) → f a (x ++ y) ≡ f (f a x) y) → (a : A) (xs : List (List ℕ)) → over_pieces f a xs ≡ f a (together xs)
  as_one nothing append a [] = sym (nothing a)
  as_one nothing append a (x ∷ xs) = as_one nothing append (f a x) xs ∙ sym (append a x (together xs))

  -- one piece more
  pub pieces_more : (a : A) (xs : List (List ℕ)) (x : List ℕ) → over_pieces f a (xs ++ (x ∷ [])) ≡ f (over_pieces f a xs) x
  pieces_more a [] x = refl
  pieces_more a (y ∷ ys) x = pieces_more (f a y) ys x

  -- a turn: the read failed, or answered 0, or some bytes, which are no more than the buffer has
  module _ (a : A) (buffer : List ℕ) (got : Option ℕ) where
    pub turned_failed : f a [] ≡ a → got ≡ None → TurnsBy f a buffer got a (Some (Err CannotRead))
    unfolding end_of
    turned_failed same e = rw e (record { state = sym same; wrote = true; end = refl })

    pub turned_end : (n : ℕ) → f a [] ≡ a → got ≡ Some n → n ≡ 0 → TurnsBy f a buffer got a (Some all_read)
    unfolding end_of
    turned_end n same e z = rw (e, z) (record { state = sym same; wrote = true; end = refl })

    pub turned_piece : (n m : ℕ) (b : A) (wrote : Bool) → got ≡ Some n → (n ≡ 0 → ⊥) → m ≡ min n (length buffer) → b ≡ f a (take m buffer)
        → TurnsBy f a buffer got b (closed_by wrote)
    unfolding end_of
    turned_piece n m b wrote e some least p =
        rw e (record { state = p ∙ ap (f a) (rw least (take_min n buffer)); wrote = wrote; end = rw (ne_eqb n 0 some) })

  -- some pieces are done, as many as the turns that are over
  pub record GoingBy (a d : A) (turns : ℕ) : Type 0 where
    pub pieces : List (List ℕ)
    pub state : d ≡ over_pieces f a pieces
    pub count : length pieces ≡ turns

  pub begins_by : (a : A) → GoingBy a a 0
  begins_by a = record { pieces = []; state = refl; count = refl }

  module _ (a d : A) (turns : ℕ) (buffer : List ℕ) (got : Option ℕ) (b : A) (g : GoingBy a d turns) where
    pub goes_on_by : (e : Option End) → TurnsBy f d buffer got b e → GoingBy a b (turns + 1)
    goes_on_by e u =
        record {
          pieces = g.pieces ++ (given got buffer ∷ []);
          state = u.state ∙ ap (λ (x : A). f x (given got buffer)) g.state ∙ sym (pieces_more a g.pieces (given got buffer));
          count = omega (arith, length-append g.pieces (given got buffer ∷ []), g.count);
        }

    pub stops_by : (o : Option End) (e : End) → TurnsBy f d buffer got b o → o ≡ Some e → DrainsBy f a b e
    stops_by o e u s =
        let n = goes_on_by o u in
        record {
          pieces = n.pieces;
          state = n.state;
          last = got;
          wrote = u.wrote;
          end = sym (rw (← u.end, s));
          patient = λ m. absurd (never_more got u.wrote (sym u.end ∙ s ∙ ap Some m));
        }

  pub gives_up_by : (a d : A) (turns : ℕ) → GoingBy a d turns → turns ≡ most_turns → DrainsBy f a d (Err More)
  unfolding end_of
  gives_up_by a d turns g e = record { pieces = g.pieces; state = g.state; last = Some 1; wrote = true; end = refl; patient = λ _. g.count ∙ e }
