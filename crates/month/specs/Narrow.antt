-- The window of a table, as numbers of 16 bits.
-- Assumes nothing.
use Rattle.std.specs.Prelude.{min}
use Rattle.window.specs.declared.Window.{Window}
use Rattle.window.specs.Window.{window}

-- the window of four numbers of 16 bits: each that is greater is made the greatest of these
abbrev pub narrowed : Window → Window
narrowed W = window (min W.r0 65535) (min W.c0 65535) (min W.h 65535) (min W.w 65535)
