-- The window of P1, and windows that part it or share pixels in it: what the examples of the crates above go by.
-- Assumes nothing.
use Rattle.window.specs.declared.Window.{Window}
use Rattle.window.specs.Window.{window}

abbrev pub W : Window
W = window 0 1 3 3

-- its first column, and the others
abbrev pub column : Window
column = window 0 1 3 1

abbrev pub columns : Window
columns = window 0 2 3 2

-- its first row, and the others
abbrev pub row : Window
row = window 0 1 1 3

abbrev pub lower : Window
lower = window 1 1 2 3

-- its first two columns, its middle column and its middle pixel
abbrev pub first_two : Window
first_two = window 0 1 3 2

abbrev pub middle : Window
middle = window 0 2 3 1

abbrev pub pixel : Window
pixel = window 1 2 1 1

-- four pixels at its north-west corner, and at its south-east corner
abbrev pub north-west : Window
north-west = window 0 1 2 2

abbrev pub south-east : Window
south-east = window 1 2 2 2
