-- A buffer, the place in it where the next byte goes and the place where writing stops: what the functions that write text promise one another.
use Rattle.std.specs.Prelude.{List, [], ◌∷◌, ℕ, ◌+◌, ltb, set}
use Rattle.lists.specs.Lists.{pick}
use Rattle.print.specs.declared.Pen.{Pen}

pub record Cursor : Type 0 where
  pub buffer : List ℕ
  pub place : ℕ
  pub stop : ℕ

abbrev pub cursor : List ℕ → ℕ → ℕ → Cursor
cursor buffer place stop = record { buffer = buffer; place = place; stop = stop }

abbrev pub cursor_at : List ℕ → Pen → Cursor
cursor_at buffer pen = cursor buffer pen.place pen.stop

-- a byte more, which past the end of the buffer is only counted; from the stop on nothing is
abbrev pub put : Cursor → ℕ → Cursor
put c byte = pick (ltb c.place c.stop) (cursor (set c.buffer c.place byte) (c.place + 1) c.stop) c

-- bytes, one after the other
unfoldable pub write : Cursor → List ℕ → Cursor
write c [] = c
write c (byte ∷ bytes) = write (put c byte) bytes
