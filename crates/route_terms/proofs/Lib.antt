mod KeptLaws
