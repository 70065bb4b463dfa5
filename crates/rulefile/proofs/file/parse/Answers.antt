use Rattle.rulefile.proofs.Rising.{within_lines, rising_lines}
use Rattle.rulefile.proofs.file.parse.Goals as goal

pub returns : goal.returns
returns c = record {
  value = c.read_text.ensures;
  place = within_lines c.args.text.now c.read_text.result c.read_text.ensures;
  rising = rising_lines c.args.text.now c.read_text.result c.read_text.ensures;
}
