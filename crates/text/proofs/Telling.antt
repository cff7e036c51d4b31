-- A text that is put into a lent slice piece by piece.
-- Assumes nothing.
use mathlib.Core.Path.{◌≡◌, refl, sym, ap, ◌∙◌}
use mathlib.Core.List.{List, [], ◌∷◌, ◌++◌, append_assoc, append-nil}
use Prim.Native.Nat.{ℕ, ◌+◌, ◌≤◌}
use native.Mathlib.Omega.{arith}
use lib.ListN.{length, set, length-append, length-drop}
use lib.Seq.{append_snoc}
use Rattle.answers.specs.After.{after}
use Rattle.answers.proofs.Laws.{lent, back, lent_is, Filling, filling, filling-first, filling-cell, filling-part}
use Rattle.text.specs.Text.{put_of}
use Rattle.text.proofs.Digits.{put_all, put-there}

-- of a whole text the bytes up to `at` are put, and the rest is not
pub record Telling (all rest : List ℕ) (at : ℕ) (out₀ out : List ℕ) : Type 0 where
  pub done : List ℕ
  pub whole : done ++ rest ≡ all
  pub filled : Filling done out₀ out
  pub ends : length done ≡ at
  pub room : length all ≤ length out₀

pub telling-first : (all out : List ℕ) → length all ≤ length out → Telling all all 0 out out
telling-first all out l = record { done = []; whole = refl; filled = filling-first out; ends = refl; room = l }

-- the first piece was put into the slice as it is
pub telling-begin : (all piece rest out : List ℕ) {r : ℕ} {ys : List ℕ} → all ≡ piece ++ rest → length all ≤ length out → after r ys ≡ put_of piece out → Telling all rest r out ys
telling-begin all piece rest out e l p =
    let n : length all ≡ length piece + length rest = ap length e ∙ simp length-append in
    let put = put-there piece out p (omega arith) in
    record { done = piece; whole = sym e; filled = filling piece out _ (omega arith) put.1; ends = sym put.0; room = l }

module _ {all rest : List ℕ} {at : ℕ} {out₀ out : List ℕ} (t : Telling all rest at out₀ out) where
  -- what is put and what is not is all, and the slice has room for it
  pub telling-length : at + length rest ≡ length all
  telling-length = omega (arith, simp length-append at (ap length t.whole), t.ends)

  pub telling-room : at + length rest ≤ length out
  telling-room = omega (arith, telling-length, t.room, t.filled.same)

  -- the next piece, in the part that is lent from `at` on
  pub telling-lent : (piece rest' : List ℕ) → rest ≡ piece ++ rest' → length piece ≤ length (lent at out)
  telling-lent piece rest' e =
      let n : length rest ≡ length piece + length rest' = ap length e ∙ simp length-append in
      rw (lent_is at out, length-drop) (omega (arith, telling-room))

  pub telling-part : (piece rest' : List ℕ) {r : ℕ} {ys : List ℕ} → rest ≡ piece ++ rest' → after r ys ≡ put_of piece (lent at out)
      → Telling all rest' (at + r) out₀ (back at out ys)
  telling-part piece rest' {r} {ys} e p =
      let put = put-there piece (lent at out) p (telling-lent piece rest' e) in
      let n : length rest ≡ length piece + length rest' = ap length e ∙ simp length-append in
      record {
        done = t.done ++ piece;
        whole = rw append_assoc (rw e at t.whole);
        filled = filling-part t.filled at t.ends piece put.1 (omega (arith, telling-room, t.filled.same));
        ends = simp length-append (omega (arith, t.ends, put.0));
        room = t.room;
      }

  -- the next byte
  pub telling-byte : (y : ℕ) (rest' : List ℕ) → rest ≡ y ∷ rest' → Telling all rest' (at + 1) out₀ (set out at y)
  telling-byte y rest' e =
      let n : length rest ≡ 1 + length rest' = ap length e ∙ omega arith in
      record {
        done = t.done ++ (y ∷ []);
        whole = append_snoc t.done y rest' ∙ rw e at t.whole;
        filled = filling-cell t.filled at t.ends y (omega (arith, telling-room, t.filled.same));
        ends = simp length-append (omega (arith, t.ends));
        room = t.room;
      }

  pub telling-last : rest ≡ [] → after at out ≡ put_of all out₀
  telling-last e =
      let is : t.done ≡ all = sym (append-nil t.done) ∙ rw e at t.whole in
      rw (put_all all out₀ t.room, ← is, t.filled.is, t.ends)
