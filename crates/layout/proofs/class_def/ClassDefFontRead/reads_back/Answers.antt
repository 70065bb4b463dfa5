use Rattle.layout.specs.Listing.{listed}
use Rattle.layout.proofs.ClassDefs.{class_back}
use Rattle.layout.proofs.class_def.ClassDefFontRead.reads_back.Goals as goal

pub returns : goal.returns
returns c bs at q = class_back (listed c.args.self.now.classes.now) bs at q
