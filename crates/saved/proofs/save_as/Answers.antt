-- `saved::save_as` meets its contract. Assumes nothing.
use Rattle.std.proofs.Common.{Result, Ok, Err}
use mathlib.Core.Path.{◌≡◌, sym, ap, ◌∙◌}
use mathlib.Core.Bool.{true, false}
use mathlib.Core.List.{List, [], ◌∷◌}
use Prim.Native.Nat.{ℕ, ◌<◌, ◌≤◌}
use native.Mathlib.Omega.{arith}
use borrow.Author.Tests.{lt-ltb, le-ltb}
use lib.ListN.{length, take, length-take}
use Rattle.base.proofs.Bools.{said_no, said_yes}
use Rattle.cluster.specs.declared.Cluster.{Cluster}
use Rattle.steps.specs.declared.Refusal.TheVariants.{IllFormed, OutOfRange}
use Rattle.lines.specs.Texts.{placed}
use Rattle.saved.specs.declared.NotSaved.{NotSaved}
use Rattle.saved.specs.declared.NotSaved.TheVariants.{NoRoom, Refused}
use Rattle.saved.specs.declared.Sort.TheVariants as S
use Rattle.saved.specs.Layout.{size_of, first_frame}
use Rattle.saved.specs.Editions.{widths1, widths3, editions, is_known, edition_numbered, has_form}
use Rattle.saved.specs.Saved.{all_frames, frames_of, text_of, saved_as}
use Rattle.saved.specs.Written.{Written, line_length, longest, saved_as_of, saved_as_out}
use Rattle.saved.proofs.Texts.{text_length}
use Rattle.saved.proofs.Lawful.{numbered_is}
use Rattle.saved.proofs.First.{like}
use Rattle.saved.proofs.Frames.{at_most_seven}
use Rattle.saved.proofs.Allowed.{form_formed}
use Rattle.saved.proofs.Going.{written_length, written_more}
use Rattle.saved.proofs.save_as.Goals as goal

-- the result and the buffer, in each case
module _ (n : ℕ) (c : Cluster) (out : List ℕ) where
  abbrev Gives : Result ℕ NotSaved → List ℕ → Type 0
  Gives r out' = (r ≡ saved_as_of n c (length out)) × (out' ≡ saved_as_out n c out)

  not_known : is_known editions n ≡ false → Gives (Err (Refused OutOfRange)) out
  unfolding saved_as_of saved_as_out
  not_known k = (rw k, rw k)

  module _ (k : is_known editions n ≡ true) where
    no-form : has_form (edition_numbered editions n) c ≡ false → Gives (Err (Refused IllFormed)) out
    unfolding saved_as_of saved_as_out
    no-form e = (rw (k, e), rw (k, e))

    module _ (e : has_form (edition_numbered editions n) c ≡ true) where
      no_room : length out < longest → Gives (Err NoRoom) out
      unfolding saved_as_of saved_as_out
      no_room h = (rw (k, e, lt-ltb (length out) longest h), rw (k, e, lt-ltb (length out) longest h))

      all-written : {f mid out' : List ℕ} {m w r : ℕ} → longest ≤ length out → f ≡ first_frame widths3 n c.count c.followers
          → m ≡ size_of (edition_numbered editions n).widths S.First → Written out 0 mid w (take m f ∷ [])
          → Written mid w out' r (all_frames widths1 (take c.count c.servers)) → Gives (Ok r) out'
      unfolding saved_as_of saved_as_out
      all-written {f} {out' = out'} {m} {r = r} h first size v rest =
          let ss = take c.count c.servers in
          let x = edition_numbered editions n in
          let w : Written out 0 out' r (take m f ∷ all_frames widths1 ss) = written_more v rest in
          let begins : take m f ≡ first_frame x.widths x.number c.count c.followers =
          ap (take m) first ∙ ap (λ (i : ℕ). take i (first_frame widths3 n c.count c.followers)) size ∙ (like n).front n c.count c.followers
          ∙ ap (λ (i : ℕ). first_frame x.widths i c.count c.followers) (sym (numbered_is editions n k)) in
          let same : take m f ∷ all_frames widths1 ss ≡ frames_of x c = cc (begins, (like n).servers ss) in
          let long : r ≡ length (saved_as (edition_numbered editions n) c) = omega (arith, w.next, ap (λ (x : List (List ℕ)). length (text_of x)) same) in
          (rw (k, e, le-ltb (length out) longest h) (ap Ok long), rw (k, e, le-ltb (length out) longest h) (w.buffer ∙ ap (λ (x : List (List ℕ)). placed out 0 (text_of x)) same))

-- the first frame has so many bytes, and is the beginning of the newest's
module _ {n m : ℕ} {f : List ℕ} {size followers : ℕ} (is : f ≡ first_frame widths3 n size followers) (as-many : m ≡ size_of (edition_numbered editions n).widths S.First) where
  inside : m ≤ length f
  inside = omega (arith, as-many, (like n).short, ap length is)

line-length : {n : ℕ} {f : List ℕ} {size followers : ℕ} (m : ℕ) → f ≡ first_frame widths3 n size followers → length (text_of (take m f ∷ [])) ≤ line_length S.First
line-length {f = f} m is = omega (arith, text_length (take m f) [], length-take m f, ap length is)

pub returns-then-not-is_known : goal.returns-then-not-is_known
returns-then-not-is_known c =
    let g : Gives c.args.edition c.args.c c.args.out.now (Err (Refused OutOfRange)) c.args.out.now =
    not_known c.args.edition c.args.c c.args.out.now (said_no _ _ c.is_known.ensures c.if-not-is_known.true) in
    record { result = g.0; output = g.1 }

pub returns-then-not-has_form : goal.returns-then-not-has_form
returns-then-not-has_form c =
    let known : is_known editions c.args.edition ≡ true = said_yes _ _ c.is_known.ensures c.if-not-is_known.false in
    let g : Gives c.args.edition c.args.c c.args.out.now (Err (Refused IllFormed)) c.args.out.now =
    no-form c.args.edition c.args.c c.args.out.now known (said_no _ _ c.has_form.ensures c.if-not-has_form.true) in
    record { result = g.0; output = g.1 }

pub returns-then-out-lt-LONGEST : goal.returns-then-out-lt-LONGEST
returns-then-out-lt-LONGEST c =
    let known : is_known editions c.args.edition ≡ true = said_yes _ _ c.is_known.ensures c.if-not-is_known.false in
    let form : has_form (edition_numbered editions c.args.edition) c.args.c ≡ true = said_yes _ _ c.has_form.ensures c.if-not-has_form.false in
    let g : Gives c.args.edition c.args.c c.args.out.now (Err NoRoom) c.args.out.now =
    no_room c.args.edition c.args.c c.args.out.now known form c.if-out-lt-LONGEST.true in
    record { result = g.0; output = g.1 }

pub first_frame-f-requires : goal.first_frame-f-requires
first_frame-f-requires c = let form : has_form (edition_numbered editions c.args.edition) c.args.c ≡ true = said_yes _ _ c.has_form.ensures c.if-not-has_form.false in omega (arith, at_most_seven c.args.c (form_formed _ c.args.c form))

pub slice_bounds-f-end : goal.slice_bounds-f-end
slice_bounds-f-end c = inside c.first_frame-f.ensures c.first_bytes-n.ensures

pub put_line-past-requires : goal.put_line-past-requires
put_line-past-requires c = omega (arith, line-length c.first_bytes-n.result c.first_frame-f.ensures, c.if-out-lt-LONGEST.false)

pub put_servers-end-requires : goal.put_servers-end-requires
put_servers-end-requires c =
    let form : has_form (edition_numbered editions c.args.edition) c.args.c ≡ true = said_yes _ _ c.has_form.ensures c.if-not-has_form.false in
    record {
      c_value = form_formed _ c.args.c form;
      longest_server_in_bounds =
          omega (arith, c.put_line-past.ensures.next, written_length c.put_line-past.ensures, line-length c.first_bytes-n.result c.first_frame-f.ensures, c.if-out-lt-LONGEST.false);
    }

pub returns : goal.returns
returns c =
    let known : is_known editions c.args.edition ≡ true = said_yes _ _ c.is_known.ensures c.if-not-is_known.false in
    let form : has_form (edition_numbered editions c.args.edition) c.args.c ≡ true = said_yes _ _ c.has_form.ensures c.if-not-has_form.false in
    let g : Gives c.args.edition c.args.c c.args.out.now (Ok c.put_servers-end.result) c.put_servers-end.new.out =
    all-written c.args.edition c.args.c c.args.out.now known form c.if-out-lt-LONGEST.false c.first_frame-f.ensures c.first_bytes-n.ensures c.put_line-past.ensures c.put_servers-end.ensures in
    record { result = g.0; output = g.1 }
