-- When nothing is printed before the first window: exactly where nothing is refused.
-- Assumes nothing.
use mathlib.Core.Path.{◌≡◌}
use mathlib.Core.Logic.{◌↔◌}
use mathlib.Core.Bool.{true}
use mathlib.Core.List.{List, []}
use Prim.Native.Nat.{ℕ}
use lib.ListN.{length}
use Rattle.answers.proofs.Laws.{passed-append}
use Rattle.map.specs.Check.{map_refusals}
use Rattle.map.specs.Sound.{SoundMap}
use Rattle.map.proofs.Laws.{sound-map}
use Rattle.house.specs.File.{file_m, file_keys, file_classes, read_refusals}
use Rattle.house.specs.Promises.{Readable}
use Rattle.house.proofs.Laws.{read-passed}
use Rattle.lines.proofs.Laws.{silent}
use Rattle.beginning.specs.Beginning.{map_text, start_refusals, start_text}

pub map-silent : (m : ℕ) (keys classes : List ℕ) → (map_text m keys classes ≡ []) ↔ SoundMap m keys (length classes)
unfolding map_text
map-silent m keys classes = (λ e. (sound-map m keys (length classes)).0 ((silent _).0 e), λ s. (silent _).1 ((sound-map m keys (length classes)).1 s))

pub start-silent : (file : List ℕ) → (start_text file ≡ []) ↔ (Readable file 1000 1000 × SoundMap (file_m file) (file_keys file) (length (file_classes file)))
unfolding start_text start_refusals
start-silent file =
    let both = passed-append (read_refusals file 1000 1000) (map_refusals (file_m file) (file_keys file) (length (file_classes file))) in
    let read = read-passed true file 1000 1000 in
    let map = sound-map (file_m file) (file_keys file) (length (file_classes file)) in
    (λ e. let p = both.0 ((silent _).0 e) in (read.0 p.0, map.0 p.1), λ p. (silent _).1 (both.1 (read.1 p.0, map.1 p.1)))
