use Rattle.command_words.proofs.SiteMeasures.{of_region}
use Rattle.command_words.proofs.reading.site_measure.Goals as goal

pub returns-clause-region : goal.returns-clause-region
returns-clause-region c = of_region c.args.word.now c.find_measure.result c.find_measure.ensures
