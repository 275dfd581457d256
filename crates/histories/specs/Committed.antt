-- A committed log, lent as five lists, one a field: its entries, and whether a well-formed record could hold them. Assumes nothing.
use Rattle.std.specs.Prelude.{List, [], ◌∷◌, Bool, ◌&&◌, ℕ, eqb, leb, length}
use Rattle.clock.specs.Times.{limit}
use Rattle.server_log.specs.declared.Entry.{Entry}
use Rattle.server_log.specs.Order.{in_order}

-- a whole committed log has at most 128 entries
abbrev pub committed_limit : ℕ
committed_limit = 128

pub record Committed : Type 0 where
  pub terms : List ℕ
  pub keys : List ℕ
  pub values : List ℕ
  pub ps : List ℕ
  pub ls : List ℕ

-- the log that five slices lend
abbrev pub lent : List ℕ → List ℕ → List ℕ → List ℕ → List ℕ → Committed
lent terms keys values ps ls = record { terms = terms; keys = keys; values = values; ps = ps; ls = ls }

-- one entry for each place that all five lists have
unfoldable pub entries_on : List ℕ → List ℕ → List ℕ → List ℕ → List ℕ → List Entry
entries_on [] ks vs ps ls = []
entries_on (t ∷ ts) [] vs ps ls = []
entries_on (t ∷ ts) (k ∷ ks) [] ps ls = []
entries_on (t ∷ ts) (k ∷ ks) (v ∷ vs) [] ls = []
entries_on (t ∷ ts) (k ∷ ks) (v ∷ vs) (p ∷ ps) [] = []
entries_on (t ∷ ts) (k ∷ ks) (v ∷ vs) (p ∷ ps) (l ∷ ls) =
    record { term = t; key = k; value = v; time = record { p = p; l = l } } ∷ entries_on ts ks vs ps ls

abbrev pub entries_of : Committed → List Entry
entries_of g = entries_on g.terms g.keys g.values g.ps g.ls

-- the five lists are of one length
unfoldable pub same_lengths : Committed → Bool
same_lengths g =
    eqb (length g.keys) (length g.terms)
    && (eqb (length g.values) (length g.terms)
    && (eqb (length g.ps) (length g.terms) && eqb (length g.ls) (length g.terms)))

-- a well-formed record could hold the log: not too long, and every entry may stand in its place at a server of some term
unfoldable pub could_hold : Committed → Bool
could_hold g = same_lengths g && (leb (length g.terms) committed_limit && in_order limit (entries_of g))
