use Rattle.dataframes.proofs.builder.ServiceBuilder.run.Given as goal

-- the ledgers are the blanks
abbrev pub ghosts-open-Acc-Ledger : goal.ghosts-open-Acc-Ledger
ghosts-open-Acc-Ledger g a = record { name = a.accepted.name; parts = a.accepted.parts }

abbrev pub ghosts-open-Del-Ledger : goal.ghosts-open-Del-Ledger
ghosts-open-Del-Ledger g a = record { name = a.deleted.name; parts = a.deleted.parts }
