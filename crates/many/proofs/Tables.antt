-- The refusals of many windows: what each decides, what they pass, and what is answered and left behind them.
-- Assumes nothing.
use mathlib.Core.Path.{◌≡◌, refl, sym, ap, ◌∙◌}
use mathlib.Core.Logic.{◌↔◌}
use mathlib.Core.Bool.{Bool, true, false, not}
use mathlib.Core.List.{List, [], ◌++◌}
use Prim.Native.Nat.{ℕ, ◌*◌, ◌%◌, ◌≤◌, ◌<◌}
use native.Mathlib.Omega.{arith}
use lib.Dec.{eqb, ltb}
use lib.ListN.{length}
use borrow.Author.Tests.{eqb-true, eq-eqb, ne_eqb, ltb-false, le-ltb, not-false}
use Rattle.lists.proofs.Laws.{never, neither}
use Rattle.std.specs.Prelude.{Result, Ok, Err}
use Rattle.answers.specs.declared.Cause.TheVariants.{BadWindowList, ShortRoom}
use Rattle.answers.specs.declared.Refused.{Refused}
use Rattle.answers.specs.Refusals.{Refusal, refuse, number, verdict}
use Rattle.answers.specs.Cells.{overwrite}
use Rattle.answers.specs.After.{after, unless, room_refusals}
use Rattle.answers.proofs.Laws.{append-passed, append-refused, passed-one, passed-append, refusal-held, room-passed, room-refused}
use Rattle.answers.proofs.Laws.{Numbered, none, numbered_next, numbered-append, numbered-room, refused-most}
use Rattle.window.specs.declared.Window.{Window}
use Rattle.map.specs.Check.{map_refusals}
use Rattle.map.specs.Sound.{SoundMap}
use Rattle.map.proofs.Laws.{sound-map, numbered-map}
use Rattle.used.specs.Used.{border_refusals}
use Rattle.used.proofs.Laws.{border-passed, numbered-border}
use Rattle.many.specs.Many.{windows_in, wrong_list, list_refusals, lines_of, left_by, widest, many_refusals, many_of}
use Rattle.many.specs.Promises.{InFours, Askable}
use Rattle.many.proofs.Windows.{windows-length}
use Rattle.many.proofs.Border.{widest-wider}

-- ---- 25

module _ (n : ℕ) where
  pub wrong-odd : (n % 4 ≡ 0 → ⊥) → wrong_list n ≡ true
  unfolding wrong_list
  wrong-odd h = rw (ne_eqb (n % 4) 0 h)

  pub wrong-fours : n % 4 ≡ 0 → wrong_list n ≡ ltb 1024 n
  unfolding wrong_list
  wrong-fours e = rw (eq-eqb (n % 4) 0 e)

  pub list-refused : wrong_list n ≡ true → verdict (list_refusals n) ≡ refuse BadWindowList 0
  unfolding list_refusals
  list-refused e = refusal-held refuse BadWindowList 0 [] _ e

  pub list-passed : (verdict (list_refusals n) ≡ Ok tt) ↔ (wrong_list n ≡ false)
  unfolding list_refusals
  list-passed = passed-one (wrong_list n) BadWindowList 0

  pub wrong-not : (wrong_list n ≡ false) ↔ ((n % 4 ≡ 0) × (n ≤ 1024))
  unfolding wrong_list
  wrong-not = (
    λ e. let t = neither (not (eqb (n % 4) 0)) (ltb 1024 n) e in (eqb-true (n % 4) 0 (not-false _ t.0), ltb-false 1024 n t.1),
    λ t. wrong-fours t.0 ∙ le-ltb 1024 n t.1,
  )

module _ (windows : List ℕ) where
  -- exactly a list in fours, of at most 256 windows, is none
  pub list_right : (wrong_list (length windows) ≡ false) ↔ InFours windows
  list_right =
      let n = windows-length windows in (
        λ e. let t = (wrong-not (length windows)).0 e in record { fours = omega (arith, t.0, n); few = omega (arith, t.1, n) },
        λ R. (wrong-not (length windows)).1 (omega (arith, R.fours), omega (arith, R.fours, R.few)),
      )

  pub list-wrong : (wrong_list (length windows) ≡ true) ↔ (¬ InFours windows)
  list-wrong = (λ e R. never (sym e ∙ list_right.1 R), λ not_so. go not_so (wrong_list (length windows)) refl)
    where
      go : ¬ InFours windows → (b : Bool) → wrong_list (length windows) ≡ b → wrong_list (length windows) ≡ true
      go not_so true e = e
      go not_so false e = absurd (not_so (list_right.0 e))

-- ---- one after the other

module _ (m : ℕ) (keys : List ℕ) (classes : ℕ) (windows : List ℕ) (border out : ℕ) where
  abbrev Ws : List Window
  Ws = windows_in windows

  abbrev lists : List Refusal
  lists = list_refusals (length windows)

  abbrev borders : List Refusal
  borders = border_refusals (widest m Ws) border

  pub many-unsound : {e : Refused} → verdict (map_refusals m keys classes) ≡ Err e → verdict (many_refusals m keys classes windows border out) ≡ Err e
  unfolding many_refusals
  many-unsound e = append-refused refuse (map_refusals m keys classes) _ _ e

  module _ (e : verdict (map_refusals m keys classes) ≡ Ok tt) where
    pub many-unlisted : wrong_list (length windows) ≡ true → verdict (many_refusals m keys classes windows border out) ≡ refuse BadWindowList 0
    unfolding many_refusals
    many-unlisted d = append-passed refuse (map_refusals m keys classes) _ _ e ∙ append-refused refuse lists _ _ (list-refused (length windows) d)

    module _ (d : wrong_list (length windows) ≡ false) where
      behind : verdict (many_refusals m keys classes windows border out) ≡ verdict (borders ++ room_refusals out (5 * length Ws))
      unfolding many_refusals
      behind = append-passed refuse (map_refusals m keys classes) _ _ e ∙ append-passed refuse lists _ _ ((list-passed (length windows)).1 d)

      pub many-narrow : {e : Refused} → verdict (border_refusals (widest m (windows_in windows)) border) ≡ Err e
          → verdict (many_refusals m keys classes windows border out) ≡ Err e
      many-narrow w = behind ∙ append-refused refuse borders _ _ w

      module _ (w : verdict (border_refusals (widest m (windows_in windows)) border) ≡ Ok tt) where
        room : verdict (many_refusals m keys classes windows border out) ≡ verdict (room_refusals out (5 * length Ws))
        room = behind ∙ append-passed refuse borders _ _ w

        pub many-short : out < 5 * length (windows_in windows) → verdict (many_refusals m keys classes windows border out) ≡ refuse ShortRoom (5 * length (windows_in windows))
        many-short h = room ∙ room-refused out (5 * length Ws) h

        pub many-passes : 5 * length (windows_in windows) ≤ out → verdict (many_refusals m keys classes windows border out) ≡ Ok tt
        many-passes h = room ∙ (room-passed out (5 * length Ws)).1 h

  -- they pass exactly what is asked
  pub many-askable : (verdict (many_refusals m keys classes windows border out) ≡ Ok tt) ↔ Askable m keys classes windows border out
  unfolding many_refusals
  many-askable = (to, from)
    where
      to : verdict (many_refusals m keys classes windows border out) ≡ Ok tt → Askable m keys classes windows border out
      to e =
          let a = (passed-append (map_refusals m keys classes) _).0 e in
          let b = (passed-append lists _).0 a.1 in
          let c = (passed-append borders _).0 b.1 in
          record {
            sound = (sound-map m keys classes).0 a.0;
            list = (list_right windows).0 ((list-passed (length windows)).0 b.0);
            wide = (widest-wider m Ws border).0 ((border-passed (widest m Ws) border).0 c.0);
            room = (room-passed out (5 * length Ws)).0 c.1;
          }

      from : Askable m keys classes windows border out → verdict (many_refusals m keys classes windows border out) ≡ Ok tt
      from A = many-passes ((sound-map m keys classes).1 A.sound) ((list_right windows).1 A.list) ((border-passed (widest m Ws) border).1 ((widest-wider m Ws border).1 A.wide)) A.room

  -- a refusal is by 25 exactly when the map is sound and the list is wrong
  pub many-25 : {r : Refused} → verdict (many_refusals m keys classes windows border out) ≡ Err r → (number r.cause ≡ 25) ↔ (SoundMap m keys classes × (¬ InFours windows))
  many-25 {r} q = (λ z. to z (verdict (map_refusals m keys classes)) refl, from)
    where
      listed : number r.cause ≡ 25 → verdict (map_refusals m keys classes) ≡ Ok tt → (b : Bool) → wrong_list (length windows) ≡ b → SoundMap m keys classes × (¬ InFours windows)
      listed z e true d = ((sound-map m keys classes).0 e, (list-wrong windows).0 d)
      listed z e false d =
          let rest = numbered-append (numbered-border (widest m Ws) border {most = 8} (omega arith)) (numbered-room out (5 * length Ws) (omega arith)) in
          absurd (omega (arith, z, refused-most rest (sym (behind e d) ∙ q)))

      to : number r.cause ≡ 25 → (v : Result Unit Refused) → verdict (map_refusals m keys classes) ≡ v → SoundMap m keys classes × (¬ InFours windows)
      to z (Ok u) e = listed z e (wrong_list (length windows)) refl
      to z (Err r') e =
          let same : Err r' ≡ Err r = sym (many-unsound e) ∙ q in
          let one : r' ≡ r = cc in
          absurd (omega (arith, z, ap (λ (x : Refused). number x.cause) one, refused-most (numbered-map {most = 5} (omega arith) true m keys classes) e))

      from : SoundMap m keys classes × (¬ InFours windows) → number r.cause ≡ 25
      from t =
          let same : Err r ≡ refuse BadWindowList 0 = sym q ∙ many-unlisted ((sound-map m keys classes).1 t.0) ((list-wrong windows).1 t.1) in
          let one : r ≡ record { cause = BadWindowList; place = 0 } = cc in
          ap (λ (x : Refused). number x.cause) one

  pub numbered-many : Numbered 25 (many_refusals m keys classes windows border out)
  unfolding many_refusals list_refusals
  numbered-many =
      numbered-append (numbered-map (omega arith) true m keys classes)
      (numbered-append (numbered_next BadWindowList (omega arith) (omega arith) none)
      (numbered-append (numbered-border (widest m Ws) border (omega arith)) (numbered-room out (5 * length Ws) (omega arith))))

-- ---- what is answered and left, all behind them

pub many_is : (m : ℕ) (keys : List ℕ) (classes : ℕ) (windows border out : List ℕ) → many_of m keys classes windows border out
    ≡ (let Ws = windows_in windows in
    unless refuse (many_refusals m keys classes windows (length border) (length out)) (border, out)
    (after (Ok (length Ws)) (left_by m Ws border, overwrite (lines_of m keys Ws) out)))
unfolding many_of
many_is m keys classes windows border out = refl
