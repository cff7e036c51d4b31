-- Refusals 1 to 7, test by test; which calls they pass, and what is known of those.
-- Assumes nothing.
use mathlib.Core.Path.{◌≡◌, refl, sym, ap, ◌∙◌}
use mathlib.Core.Logic.{◌↔◌}
use mathlib.Core.Bool.{Bool, true, false}
use mathlib.Core.List.{List, []}
use Prim.Native.Nat.{ℕ, ◌≤◌, ◌<◌}
use native.Mathlib.Omega.{arith}
use lib.Dec.{ltb}
use lib.ListN.{length}
use Rattle.std.specs.Prelude.{Result, Ok, Err}
use borrow.Author.Tests.{lt-ltb, le-ltb, ltb-false}
use Rattle.answers.specs.declared.Cause.{Cause}
use Rattle.answers.specs.declared.Cause.TheVariants.{BadWindow, ShortBorder}
use Rattle.answers.specs.declared.Refused.{Refused}
use Rattle.answers.specs.Refusals.{answer, refuse, verdict}
use Rattle.answers.proofs.Laws.{refusal-held, answer-append, answer-same, on-passed, on-refused, append-passed, append-refused, passed-one, passed-append}
use Rattle.answers.proofs.Laws.{Numbered, none, numbered_next, numbered-append}
use Rattle.answers.proofs.Laws.{Without, without-none, without_other, without-append}
use Rattle.window.specs.declared.Window.{Window}
use Rattle.window.specs.Window.{outside, window_refusals, Inside}
use Rattle.window.proofs.Laws.{window-refused, window-passed, window-inside, numbered-window, without-window}
use Rattle.map.specs.Check.{map_refusals_in, map_refusals}
use Rattle.map.specs.Sound.{Follow, SoundIn, SoundMap}
use Rattle.map.specs.Promises.{Gapless}
use Rattle.map.proofs.Laws.{sound-map, recorded-spaced, whole-sparse, gapless-same, numbered-map, without-map}
use Rattle.used.specs.Used.{Usable, border_refusals, view_refusals, use_refusals_in, use_refusals}
use Rattle.used.specs.Promises.{AnswerableIn}

module _ (w cells : ℕ) where
  pub border-passed : (verdict (border_refusals w cells) ≡ Ok tt) ↔ (w ≤ cells)
  unfolding border_refusals
  border-passed = let seven = passed-one (ltb cells w) ShortBorder w in (λ e. ltb-false cells w (seven.0 e), λ l. seven.1 (le-ltb cells w l))

  pub border-refused : cells < w → verdict (border_refusals w cells) ≡ refuse ShortBorder w
  unfolding border_refusals
  border-refused l = refusal-held refuse ShortBorder w [] _ (lt-ltb cells w l)

  pub numbered-border : {most : ℕ} → 7 ≤ most → Numbered most (border_refusals w cells)
  unfolding border_refusals
  numbered-border h = numbered_next ShortBorder (omega arith) h none

module _ (m : ℕ) (W : Window) (cells : ℕ) where
  pub view-outside : outside m W ≡ true → verdict (view_refusals m W cells) ≡ refuse BadWindow 0
  view-outside o = append-refused refuse (window_refusals m W) _ _ (window-refused m W o)

  pub view-inside : outside m W ≡ false → verdict (view_refusals m W cells) ≡ verdict (border_refusals W.w cells)
  view-inside o = append-passed refuse (window_refusals m W) _ _ (window-passed m W o)

module _ (whole : Bool) (m : ℕ) (keys : List ℕ) (classes : ℕ) (W : Window) (cells : ℕ) where
  pub use-refused : {e : Refused} → verdict (map_refusals_in whole m keys classes) ≡ Err e → verdict (use_refusals_in whole m keys classes W cells) ≡ Err e
  unfolding use_refusals_in
  use-refused e = append-refused refuse (map_refusals_in whole m keys classes) _ _ e

  -- where the map is sound, 6 and 7 are left
  pub use-view : verdict (map_refusals_in whole m keys classes) ≡ Ok tt → verdict (use_refusals_in whole m keys classes W cells) ≡ verdict (view_refusals m W cells)
  unfolding use_refusals_in
  use-view e = append-passed refuse (map_refusals_in whole m keys classes) _ _ e

  -- one table after the other
  pub use-parts : {A : Type 0} (refuse : Cause → ℕ → A) (a : A) → answer refuse (use_refusals_in whole m keys classes W cells) a
      ≡ answer refuse (map_refusals_in whole m keys classes) (answer refuse (window_refusals m W) (answer refuse (border_refusals W.w cells) a))
  unfolding use_refusals_in
  use-parts refuse a =
      answer-append refuse (map_refusals_in whole m keys classes) _ a
      ∙ ap (answer refuse (map_refusals_in whole m keys classes)) (answer-append refuse (window_refusals m W) (border_refusals W.w cells) a)

  -- they pass exactly a sound map, a window inside and a border of at least w cells
  pub use-answerable : (verdict (use_refusals_in whole m keys classes W cells) ≡ Ok tt) ↔ AnswerableIn whole m keys classes W cells
  unfolding use_refusals_in
  use-answerable = (to, from)
    where
      to : verdict (use_refusals_in whole m keys classes W cells) ≡ Ok tt → AnswerableIn whole m keys classes W cells
      to e =
          let a = (passed-append (map_refusals_in whole m keys classes) _).0 e in
          let b = (passed-append (window_refusals m W) _).0 a.1 in
          record {
            sound = (sound-map m keys classes).0 a.0;
            inside = (window-inside m W).0 b.0;
            wide = (border-passed W.w cells).0 b.1;
          }

      from : AnswerableIn whole m keys classes W cells → verdict (use_refusals_in whole m keys classes W cells) ≡ Ok tt
      from A =
          let behind-map = (passed-append (window_refusals m W) _).1 ((window-inside m W).1 A.inside, (border-passed W.w cells).1 A.wide) in
          (passed-append (map_refusals_in whole m keys classes) _).1 ((sound-map m keys classes).1 A.sound, behind-map)

  pub numbered-use : {most : ℕ} → 7 ≤ most → Numbered most (use_refusals_in whole m keys classes W cells)
  unfolding use_refusals_in
  numbered-use h = numbered-append (numbered-map (omega arith) whole m keys classes) (numbered-append (numbered-window m W (omega arith)) (numbered-border W.w cells h))

  -- what a call may take for granted behind them
  module _ (e : verdict (use_refusals_in whole m keys classes W cells) ≡ Ok tt) where
    abbrev given : AnswerableIn whole m keys classes W cells
    given = use-answerable.0 e

    -- with any cap on its blocks
    pub use-capped : {top : ℕ} → top ≤ m → Usable m top keys W cells
    use-capped cap = record {
      small = given.sound.sizes.small;
      cap = cap;
      few = given.sound.sizes.most;
      spaced = recorded-spaced whole given.sound.records;
      inside = given.inside;
      wide = given.wide;
    }

    pub use-known : Usable m m keys W cells
    use-known = use-capped (omega arith)

    pub use-same : length keys ≡ classes
    use-same = given.sound.sizes.same

-- where gaps are allowed, 5 is not given
pub without-use : (m : ℕ) (keys : List ℕ) (classes : ℕ) (W : Window) (cells : ℕ) → Without 5 (use_refusals_in false m keys classes W cells)
unfolding use_refusals_in border_refusals
without-use m keys classes W cells =
    without-append (without-map m keys classes) (without-append (without-window m W (λ e. omega (arith, e))) (without_other ShortBorder (λ e. omega (arith, e)) without-none))

-- where it is to be so, the map is whole
pub use-whole : (m : ℕ) (keys : List ℕ) (classes : ℕ) (W : Window) (cells : ℕ) → verdict (use_refusals m keys classes W cells) ≡ Ok tt → Follow m 0 keys
use-whole m keys classes W cells e = ((use-answerable true m keys classes W cells).0 e).sound.records

-- of sound maps, with gaps or without, refusals 1 to 7 are the same
pub use-sound : {whole whole' : Bool} {m : ℕ} {keys keys' : List ℕ} {classes classes' : ℕ} → SoundIn whole m keys classes → SoundIn whole' m keys' classes'
    → (W : Window) (cells : ℕ) {A : Type 0} (refuse : Cause → ℕ → A) (a : A)
    → answer refuse (use_refusals_in whole m keys classes W cells) a ≡ answer refuse (use_refusals_in whole' m keys' classes' W cells) a
use-sound {m = m} S S' W cells {A} refuse a = behind S ∙ sym (behind S')
  where
    behind : {b : Bool} {ks : List ℕ} {n : ℕ} → SoundIn b m ks n
        → answer refuse (use_refusals_in b m ks n W cells) a ≡ answer refuse (window_refusals m W) (answer refuse (border_refusals W.w cells) a)
    behind {b} {ks} {n} T = use-parts b m ks n W cells refuse a ∙ on-passed refuse (map_refusals_in b m ks n) _ ((sound-map m ks n).1 T)

-- and so are outcomes that are the same where the window is inside
pub use-alike : {whole whole' : Bool} {m : ℕ} {keys keys' : List ℕ} {classes classes' : ℕ} → SoundIn whole m keys classes → SoundIn whole' m keys' classes'
    → (W : Window) (cells : ℕ) {A : Type 0} (refuse : Cause → ℕ → A) (a a' : A) → (Inside m W → a ≡ a')
    → answer refuse (use_refusals_in whole m keys classes W cells) a ≡ answer refuse (use_refusals_in whole' m keys' classes' W cells) a'
use-alike {whole' = whole} {m} {keys' = keys} {classes' = classes} S S' W cells refuse a a' h =
    use-sound S S' W cells refuse a
    ∙ answer-same refuse (use_refusals_in whole m keys classes W cells) a a' (λ passed. h ((use-answerable whole m keys classes W cells).0 passed).inside)

-- and those on one map whose gaps are not refused, if they are the same where it is sound and the window inside
pub use-gapless : {m : ℕ} {keys : List ℕ} {classes : ℕ} → Gapless m keys classes → (W : Window) (cells : ℕ) {A : Type 0} (refuse : Cause → ℕ → A) (a a' : A)
    → (SoundMap m keys classes → Inside m W → a ≡ a')
    → answer refuse (use_refusals_in false m keys classes W cells) a ≡ answer refuse (use_refusals m keys classes W cells) a'
use-gapless {m} {keys} {classes} G W cells refuse a a' h = go (verdict (map_refusals m keys classes)) refl
  where
    go : (v : Result Unit Refused) → verdict (map_refusals m keys classes) ≡ v
        → answer refuse (use_refusals_in false m keys classes W cells) a ≡ answer refuse (use_refusals m keys classes W cells) a'
    go (Ok tt) e = let S = (sound-map m keys classes).0 e in use-alike (whole-sparse S) S W cells refuse a a' (h S)
    go (Err r) e =
        on-refused refuse _ a (use-refused false m keys classes W cells (gapless-same G ∙ e)) ∙ sym (on-refused refuse _ a' (use-refused true m keys classes W cells e))
