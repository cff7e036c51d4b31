-- What is printed for a map and for a file, as the calls answer; and that where nothing is, the map is sound.
-- Assumes nothing.
use mathlib.Core.Path.{◌≡◌, refl, sym, ap, ◌∙◌}
use mathlib.Core.Bool.{true}
use mathlib.Core.List.{List, []}
use Prim.Native.Nat.{ℕ}
use native.Mathlib.Omega.{arith}
use lib.ListN.{length, take}
use Rattle.std.specs.Prelude.{Result, Ok, Err}
use Rattle.answers.specs.declared.Refused.{Refused}
use Rattle.answers.specs.Refusals.{Refusal, answer, refuse, number, verdict}
use Rattle.answers.specs.After.{After, after}
use Rattle.answers.proofs.Laws.{accepted, on-passed, on-refused, append-passed, append-refused}
use Rattle.map.specs.Check.{map_refusals}
use Rattle.map.specs.Sound.{SoundMap}
use Rattle.house.specs.declared.Header.{Header}
use Rattle.house.specs.File.{file_m, file_q, file_keys, file_classes, Reading, read, read_refusals, read_of}
use Rattle.house.proofs.Laws.{read-room, read-holds, read-by-lengths}
use Rattle.text.specs.Text.{put_of}
use Rattle.lines.specs.Lines.{cause_line}
use Rattle.lines.proofs.Laws.{line-some, silent}
use Rattle.beginning.specs.Beginning.{map_text, start_refusals, start_text, start_of, Held, Says, Begun, Said}
use Rattle.beginning.proofs.Silent.{start-silent}

-- a text that is the line of a refusal was put
pub line-said : (text : List ℕ) (e : Refused) (said : ℕ) (out out' : List ℕ) → text ≡ cause_line e.cause e.place → after said out' ≡ put_of (cause_line e.cause e.place) out
    → Says text (Err said) out out'
line-said text e said out out' d put = (λ f. line-some (number e.cause) e.place (sym d ∙ f), rw d put)

-- ---- a map

module _ (m : ℕ) (keys classes : List ℕ) where
  pub map-passed : verdict (map_refusals m keys (length classes)) ≡ Ok tt → map_text m keys classes ≡ []
  unfolding map_text
  map-passed e = (silent _).1 e

  pub map-refused : {e : Refused} → verdict (map_refusals m keys (length classes)) ≡ Err e → map_text m keys classes ≡ cause_line e.cause e.place
  unfolding map_text
  map-refused e = on-refused cause_line _ [] e

  map-clear : map_text m keys classes ≡ [] → verdict (map_refusals m keys (length classes)) ≡ Ok tt
  unfolding map_text
  map-clear e = (silent _).0 e

-- ---- a file

-- what an answer tells of its table
told : {A : Type 0} (rs : List Refusal) (a : A) {e : Refused} → answer refuse rs (Ok a) ≡ Err e → verdict rs ≡ Err e
told {A} rs a {e} d = go (verdict rs) refl
  where
    go : (v : Result Unit Refused) → verdict rs ≡ v → verdict rs ≡ Err e
    go (Ok tt) p = let never : ◌≡◌ {A = Result A Refused} (Ok a) (Err e) = sym (on-passed refuse rs (Ok a) p) ∙ d in cc
    go (Err r) p = let same : ◌≡◌ {A = Result A Refused} (Err r) (Err e) = sym (on-refused refuse rs (Ok a) p) ∙ d in
        let r-is : r ≡ e = cc in p ∙ ap Err r-is

-- a file was read into cells for 1,000 records: the answer, and the cells then
pub record Got (file ks cs : List ℕ) (r : Reading) (ks' cs' : List ℕ) : Type 0 where
  pub is : after r (ks', cs') ≡ read_of file ks cs
  pub keys : length ks ≡ 1000
  pub classes : length cs ≡ 1000

module _ {file ks cs : List ℕ} {r : Reading} {ks' cs' : List ℕ} (g : Got file ks cs r ks' cs') where
  says : answer refuse (read_refusals file 1000 1000) (read (file_m file) (file_q file)) ≡ r
  says = sym (read-by-lengths true file ks cs ∙ rw (g.keys, g.classes)) ∙ ap (λ (x : After Reading (List ℕ × List ℕ)). x.answer) (sym g.is)

  module _ {e : Refused} (d : r ≡ Err e) where
    pub start-refused : start_text file ≡ cause_line e.cause e.place
    unfolding start_text start_refusals
    start-refused = append-refused cause_line (read_refusals file 1000 1000) _ [] (told _ _ (says ∙ d))

    -- a file that is refused is not passed over
    pub start-said : {said : ℕ} {out out' : List ℕ} → after said out' ≡ put_of (cause_line e.cause e.place) out → Said file said out out'
    start-said {said} {out} {out'} put = let s = line-said (start_text file) e said out out' start-refused put in record { some = s.0; text = s.1 }

  module _ {h : Header} (d : r ≡ Ok h) where
    whole : read_of file ks cs ≡ after (Ok h) (ks', cs')
    whole = sym g.is ∙ ap (λ (x : Reading). after x (ks', cs')) d

    pub read-held : Held file h ks' cs'
    read-held = record { few = omega (arith, read-room true file ks cs whole, g.keys); map = read-holds true file ks cs whole }

    passed : (verdict (read_refusals file 1000 1000) ≡ Ok tt) × (read (file_m file) (file_q file) ≡ Ok h)
    passed = accepted refuse (read_refusals file 1000 1000) _ (λ c p f. cc) (says ∙ d)

    -- what is printed for it then is what is printed for its map
    pub start-read : map_text h.m (take h.count ks') (take h.count cs') ≡ start_text file
    unfolding start_text start_refusals map_text
    start-read = let h = read-held.map in rw (h.m-is, h.keys-are, h.classes-are) (sym (append-passed cause_line (read_refusals file 1000 1000) _ [] passed.0))

    start-passed : map_text h.m (take h.count ks') (take h.count cs') ≡ [] → start_of file ≡ Ok h
    unfolding start_of start_refusals
    start-passed e =
        let is = read-held.map in
        let own = map-clear h.m (take h.count ks') (take h.count cs') e in
        let same : verdict (map_refusals (file_m file) (file_keys file) (length (file_classes file))) ≡ Ok tt = rw (is.m-is, is.keys-are, is.classes-are) at own in
        append-passed refuse (read_refusals file 1000 1000) _ _ passed.0 ∙ on-passed refuse _ _ same ∙ passed.1

    pub start-begun : {out out' : List ℕ} → Says (map_text h.m (take h.count ks') (take h.count cs')) (Ok tt) out out' → Begun file h ks' cs' out out'
    start-begun s = record { silent = sym start-read ∙ s.0; is = start-passed s.0; held = read-held; kept = s.1 }

    pub start-told : {said : ℕ} {out out' : List ℕ} → Says (map_text h.m (take h.count ks') (take h.count cs')) (Err said) out out' → Said file said out out'
    start-told s = record { some = λ e. s.0 (start-read ∙ e); text = rw (← start-read) s.1 }

-- where nothing is printed, the map is sound
pub begun-sound : {file : List ℕ} {header : Header} {keys classes out out' : List ℕ} → Begun file header keys classes out out'
    → SoundMap header.m (take header.count keys) (length (take header.count classes))
begun-sound {file} b = let h = b.held.map in rw (h.m-is, h.keys-are, h.classes-are) ((start-silent file).0 b.silent).1
