-- What is printed before the first window.
-- Assumes nothing.
use Rattle.std.specs.Prelude.{◌≡◌, List, [], ◌++◌, ℕ, ◌≤◌, length, take, Result, Ok, Err}
use Rattle.answers.specs.Refusals.{Refusal, answer, refuse}
use Rattle.answers.specs.After.{after}
use Rattle.map.specs.Check.{map_refusals}
use Rattle.house.specs.declared.Header.{Header}
use Rattle.house.specs.File.{file_m, file_q, file_keys, file_classes, FileMap, Reading, read, read_refusals}
use Rattle.text.specs.Text.{put_of}
use Rattle.lines.specs.Lines.{refused_text}

-- what is printed for a map
unfoldable pub map_text : ℕ → List ℕ → List ℕ → List ℕ
map_text m keys classes = refused_text (map_refusals m keys (length classes))

-- there is nothing to print; or what is to be printed, so many bytes, was put
abbrev pub Says : List ℕ → Result Unit ℕ → List ℕ → List ℕ → Type 0
Says text (Ok done) out out' = (text ≡ []) × (out' ≡ out)
Says text (Err said) out out' = (text ≡ [] → ⊥) × (after said out' ≡ put_of text out)

-- a file is read into 1,000 cells each, and then its map is looked at
unfoldable pub start_refusals : List ℕ → List Refusal
start_refusals file = read_refusals file 1000 1000 ++ map_refusals (file_m file) (file_keys file) (length (file_classes file))

-- what is printed for a file
unfoldable pub start_text : List ℕ → List ℕ
start_text file = refused_text (start_refusals file)

-- what that answers: m and the number of records, or a refusal
unfoldable pub start_of : List ℕ → Reading
start_of file = answer refuse (start_refusals file) (read (file_m file) (file_q file))

-- the first cells are the map that the file holds
pub record Held (file : List ℕ) (header : Header) (keys classes : List ℕ) : Type 0 where
  pub few : header.count ≤ 1000
  pub map : FileMap file header.m (take header.count keys) (take header.count classes)

-- nothing is printed for a file, and its map is held
pub record Begun (file : List ℕ) (header : Header) (keys classes out out' : List ℕ) : Type 0 where
  pub silent : start_text file ≡ []
  pub is : start_of file ≡ Ok header
  pub held : Held file header keys classes
  pub kept : out' ≡ out

-- what is printed for it, which is not nothing, was put
pub record Said (file : List ℕ) (said : ℕ) (out out' : List ℕ) : Type 0 where
  pub some : start_text file ≡ [] → ⊥
  pub text : after said out' ≡ put_of (start_text file) out

abbrev pub Started : List ℕ → Result Header ℕ → List ℕ → List ℕ → List ℕ → List ℕ → Type 0
Started file (Ok header) keys classes out out' = Begun file header keys classes out out'
Started file (Err said) keys classes out out' = Said file said out out'
