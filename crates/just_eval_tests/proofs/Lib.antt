mod KeptConstants
