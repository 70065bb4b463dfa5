use Rattle.layout.proofs.CoverageTables.{coverage_back}
use Rattle.layout.proofs.coverage.CoverageTableFontRead.reads_back.Goals as goal

pub returns : goal.returns
returns c bs at q e = coverage_back c.args.self.now.glyphs.now bs at q
