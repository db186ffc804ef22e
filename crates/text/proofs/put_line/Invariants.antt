-- Invariant: the words so far stand behind one another, each with its space.
use Rattle.std.proofs.Common.{◌≡◌, ◌*◌, length, take}
use Rattle.text.specs.Text.{number_room, Appended}
use Rattle.text.proofs.TextLaws.{with_spaces}
use Rattle.text.proofs.put_line.Given as goal

abbrev pub invariant-loop-word : goal.invariant-loop-word
invariant-loop-word l =
    record {
      same : l.text.bytes.ghost_name ≡ l.initial.text.bytes.ghost_name;
      long : length l.text.bytes.now ≡ length l.initial.text.bytes.now;
      text : Appended l.initial.text.bytes.now l.initial.text.end (with_spaces (take l.word-index l.front)) (number_room * l.word-index) l.text.bytes.now l.text.end;
    }
