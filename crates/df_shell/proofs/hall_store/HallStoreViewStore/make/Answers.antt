use Rattle.df_shell.proofs.HallFacts.{answered-enough}
use Rattle.df_shell.proofs.hall_store.HallStoreViewStore.make.Goals as goal

pub learn-requires : goal.learn-requires
learn-requires g c = answered-enough c.args.self.now c.change.new.self c.args.change c.in-Some.answer c.in-Some.ensures
