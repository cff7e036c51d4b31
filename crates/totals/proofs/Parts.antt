-- The records that an opening hands out: one that reaches beyond the opened block, with its part in the window, or records that fill the block.
-- Assumes nothing.
use mathlib.Core.Path.{◌≡◌, sym, ap, ◌∙◌, subst}
use mathlib.Core.List.{List, Memᴰ}
use Prim.Native.Nat.{ℕ, ◌+◌, ◌-◌, ◌^◌, ◌≤◌, ◌<◌}
use native.Mathlib.Omega.{arith}
use lib.ListN.{length, get_or}
use Rattle.key.specs.Picture.{place}
use Rattle.key.specs.Form.{form_of}
use Rattle.key.specs.Blocks.{Names, Among}
use Rattle.key.specs.Along.{Begins}
use Rattle.key.proofs.Laws.{one_block, block-lies}
use Rattle.window.specs.declared.Window.{Window}
use Rattle.window.specs.Walk.{corner_of}
use Rattle.window.specs.Keys.{key_of}
use Rattle.window.proofs.Laws.{key-named}
use Rattle.map.specs.declared.Run.{Run}
use Rattle.map.specs.Spans.{form_exponent}
use Rattle.map.specs.Runs.{run_of}
use Rattle.map.proofs.Laws.{block-records, reach-least, reach-beyond, Alone, Inner, inner_first, inner-key, inner-names, inner-next}
use Rattle.border.specs.declared.Opening.{Opening}
use Rattle.border.specs.Openings.{met}
use Rattle.border.proofs.Laws.{met-in}
use Rattle.totals.specs.Gather.{area, clipped, Hands, Fills}
use Rattle.totals.proofs.Areas.{area-inside, area-corner}

module _ {m : ℕ} {keys : List ℕ} {classes : ℕ} {W : Window} {o : Opening} (H : Hands m keys classes W o) where
  -- the opened block
  named : Names m o.key o.block.exponent (place o.block.row o.block.col)
  named = rw (H.named, H.size) (key-named H.given.inside H.given.cap H.corner.inside H.corner.own)

  -- one that reaches further
  module _ (l : o.block.exponent < o.run.reach) where
    alone : Alone m keys o.key o.block.exponent (place o.block.row o.block.col)
    alone = reach-beyond H.given.spaced named (rw H.found l)

    pub hands-alone : o.run.count ≡ 1
    hands-alone = rw H.found at alone.one

    pub hands-small : o.run.reach ≤ m
    hands-small = rw H.found at (block-lies alone.is.names).small

    pub hands-single : area m keys W o.run.first ≡ clipped W o.run.reach (corner_of o.block)
    hands-single =
        rw (← H.named, H.found) at (area-corner H.given.spaced H.given.inside H.given.cap H.corner (rw (← H.named, H.found, ← H.size) l))

  -- otherwise they fill the block
  pub hands-fill : o.run.reach ≤ o.block.exponent → Fills m keys classes W o
  hands-fill l = record { hands = H; full = omega (arith, ap (λ (r : Run). r.reach) H.found, reach-least H.given.spaced named) }

module _ {m : ℕ} {keys : List ℕ} {classes : ℕ} {W : Window} {o : Opening} (L : Fills m keys classes W o) where
  abbrev hands : Hands m keys classes W o
  hands = L.hands

  short : (run_of m keys o.key).reach ≡ o.block.exponent
  short = ap (λ (r : Run). r.reach) hands.found ∙ L.full

  pub fills-small : o.block.exponent ≤ m
  fills-small = (block-lies (named hands)).small

  run_in : {n : ℕ} → Among o.run.first o.run.count n → Among (run_of m keys o.key).first (run_of m keys o.key).count n
  run_in a = rw hands.found a

  -- the walk through the block begins with the first record
  pub fills_first : Inner m keys o.key (o.run.first + o.run.count) o.run.first 0
  fills_first = subst (λ (r : Run). Inner m keys o.key (r.first + r.count) r.first 0) hands.found (inner_first hands.whole (named hands) short)

  module _ {n : ℕ} (a : Among o.run.first o.run.count n) where
    pub fills-key : o.key ≤ get_or keys n 0
    fills-key = (inner-key hands.whole (named hands) short (run_in a)).least

    pub fills-within : n < length keys
    fills-within = omega (arith, (block-records hands.given.spaced (named hands)).room, run_in a)

    -- where record n starts, it is a block of its own exponent
    module _ {p : ℕ} (I : Inner m keys o.key (o.run.first + o.run.count) n p) where
      inner : Inner m keys o.key ((run_of m keys o.key).first + (run_of m keys o.key).count) n p
      inner = rw hands.found I

      own : Names o.block.exponent (get_or keys n 0 - o.key) (form_exponent (form_of m (get_or keys n 0))) p
      own = inner-names hands.whole (named hands) short (run_in a) inner

      pub fills-begins : Begins o.block.exponent p (get_or keys n 0 - o.key)
      fills-begins = record { exponent = form_exponent (form_of m (get_or keys n 0)); names = own }

      module _ {e : ℕ} (N : Names o.block.exponent (get_or keys n 0 - o.key) e p) where
        same : 4 ^ e ≡ 4 ^ form_exponent (form_of m (get_or keys n 0))
        same = ap (λ (k : ℕ). 4 ^ k) (one_block N own).0

        -- all of it is in the window, and where it ends the next one starts
        pub fills-area : {x : ℕ} → x ≡ 4 ^ e → x ≡ area m keys W n
        fills-area q =
            let G = hands.given in
            let listed : Memᴰ n (met m keys (key_of m hands.top W (corner_of o.block))) = rw (← hands.named) ((met-in m keys o.key n).1 (run_in a)) in
            q ∙ same ∙ sym (area-inside G.spaced G.inside G.cap hands.corner (rw (← hands.named) (short ∙ hands.size)) listed)

        pub fills-next : {end : ℕ} → end ≡ p + 4 ^ e → Inner m keys o.key (o.run.first + o.run.count) (n + 1) end
        fills-next {end} q =
            subst (λ (r : Run). Inner m keys o.key (r.first + r.count) (n + 1) end) hands.found (inner-next hands.whole (named hands) short (run_in a) inner (rw (← same) q))
