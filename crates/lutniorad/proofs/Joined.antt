-- Many windows in two parts: a list that is cut where a window begins is answered as its two parts are, one after the other, with the border handed on.
-- Assumes nothing.
use mathlib.Core.Path.{◌≡◌, sym, ap, ap₂, ◌∙◌}
use mathlib.Core.List.{List, ◌++◌}
use Prim.Native.Nat.{ℕ, max, ◌+◌, ◌*◌, ◌≤◌}
use native.Mathlib.Omega.{arith}
use lib.ListN.{length, length-append}
use Rattle.window.specs.declared.Window.{Window}
use Rattle.many.specs.Many.{windows_in, lines_of, left_by, widest}
use Rattle.many.proofs.Laws.{windows-length, windows-append, lines-append, widest-append, widest-wider, left-append}
use Rattle.lutniorad.specs.declared.Answer.{Answer}
use Rattle.lutniorad.specs.Calls.{Windows}
use Rattle.lutniorad.specs.ManyPromises.{WindowsJoined}
use Rattle.lutniorad.proofs.Windows.{windows-answered, windows-number, windows-border, windows-lines, windows-promise}

-- a list in two parts, the first of n windows; three calls, of which the third gets the border that the second leaves
module _ (m : ℕ) (keys classes xs ys : List ℕ) (n : ℕ) (fours : length xs ≡ 4 * n) (border out one two : List ℕ) {r r₁ r₂ : Answer}
    {border' out' border₁ one' border₂ two' : List ℕ} (whole : Windows m keys classes (xs ++ ys) border out r border' out')
    (front : Windows m keys classes xs border one r₁ border₁ one') (back : Windows m keys classes ys border₁ two r₂ border₂ two') where
  join : windows_in (xs ++ ys) ≡ windows_in xs ++ windows_in ys
  join = windows-append xs ys n fours

  count : length (windows_in (xs ++ ys)) ≡ length (windows_in xs) + length (windows_in ys)
  count = ap length join ∙ length-append (windows_in xs) (windows_in ys)

  -- the border is as wide as the widest of all exactly when it is so for both parts
  wider : widest m (windows_in (xs ++ ys)) ≡ max (widest m (windows_in xs)) (widest m (windows_in ys))
  wider = ap (widest m) join ∙ widest-append m (windows_in xs) (windows_in ys)

  -- where the whole is answered, so is the first part, with room for its lines
  pub windows-front : r.refusal ≡ 0 → 5 * n ≤ length one → r₁.refusal ≡ 0
  windows-front z room =
      let A = (windows-answered m keys classes (xs ++ ys) border out whole).0 z in
      let wide = (widest-wider m (windows_in (xs ++ ys)) (length border)).1 A.wide in
      let k = windows-length xs in
      (windows-answered m keys classes xs border one front).1 (record {
        sound = A.sound;
        list = record { fours = omega (arith, fours, k); few = omega (arith, count, A.list.few) };
        wide = (widest-wider m (windows_in xs) (length border)).0 (omega (arith, wide, wider));
        room = omega (arith, room, fours, k);
      })

  module _ (z₁ : r₁.refusal ≡ 0) where
    long : length border₁ ≡ length border
    long = (windows-promise m keys classes xs border one front z₁).border-long

    -- and so is the second
    pub windows-back : r.refusal ≡ 0 → 5 * length (windows_in ys) ≤ length two → r₂.refusal ≡ 0
    windows-back z room =
        let A = (windows-answered m keys classes (xs ++ ys) border out whole).0 z in
        let wide = (widest-wider m (windows_in (xs ++ ys)) (length border)).1 A.wide in
        (windows-answered m keys classes ys border₁ two back).1 (record {
          sound = A.sound;
          list = record { fours = omega (arith, fours, windows-length xs, A.list.fours, count, length-append xs ys); few = omega (arith, count, A.list.few) };
          wide = (widest-wider m (windows_in ys) (length border₁)).0 (omega (arith, wide, wider, long));
          room = room;
        })

    module _ (z₂ : r₂.refusal ≡ 0) where
      many₁ : r₁.first ≡ length (windows_in xs)
      many₁ = ap (λ (x : Answer). x.first) (windows-number m keys classes xs border one front z₁)

      many₂ : r₂.first ≡ length (windows_in ys)
      many₂ = ap (λ (x : Answer). x.first) (windows-number m keys classes ys border₁ two back z₂)

      -- where both are answered so is the whole, if there are not too many, and room for them
      pub windows-joined : r₁.first + r₂.first ≤ 256 → 5 * (r₁.first + r₂.first) ≤ length out → r.refusal ≡ 0
      windows-joined few room =
          let A = (windows-answered m keys classes xs border one front).0 z₁ in
          let B = (windows-answered m keys classes ys border₁ two back).0 z₂ in
          let a = (widest-wider m (windows_in xs) (length border)).1 A.wide in
          let b = (widest-wider m (windows_in ys) (length border₁)).1 B.wide in
          (windows-answered m keys classes (xs ++ ys) border out whole).1 (record {
            sound = A.sound;
            list = record { fours = omega (arith, A.list.fours, B.list.fours, count, length-append xs ys); few = omega (arith, few, count, many₁, many₂) };
            wide = (widest-wider m (windows_in (xs ++ ys)) (length border)).0 (omega (arith, a, b, wider, long));
            room = omega (arith, room, count, many₁, many₂);
          })

      -- and then its lines are those of the two, and it leaves what the second leaves
      pub windows-parts : r.refusal ≡ 0 → WindowsJoined r border' out' r₁ one' r₂ border₂ two'
      windows-parts z =
          let lines₁ = windows-lines m keys classes xs border one front z₁ in
          let lines₂ = windows-lines m keys classes ys border₁ two back z₂ in
          record {
            numbers = ap (λ (x : Answer). x.first) (windows-number m keys classes (xs ++ ys) border out whole z) ∙ omega (arith, count, many₁, many₂);
            lines =
                windows-lines m keys classes (xs ++ ys) border out whole z
                ∙ ap (lines_of m keys) join
                ∙ lines-append m keys (windows_in xs) (windows_in ys)
                ∙ sym (ap₂ ◌++◌ lines₁ lines₂);
            border-after =
                windows-border m keys classes (xs ++ ys) border out whole z
                ∙ ap (λ (Ws : List Window). left_by m Ws border) join
                ∙ left-append m (windows_in xs) (windows_in ys) border
                ∙ sym (windows-border m keys classes ys border₁ two back z₂ ∙ ap (left_by m (windows_in ys)) (windows-border m keys classes xs border one front z₁));
          }
